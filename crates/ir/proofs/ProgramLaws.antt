-- From the tests of a program to what they say.
-- Assumes nothing.
use mathlib.Core.Bool.{false, ◌||◌}
use mathlib.Core.Path.{◌≡◌}
use Prim.Native.Nat.{ℕ, ◌*◌, ◌≤◌}
use lib.Dec.{ltb}
use borrow.Author.Tests.{ltb-false}
use Rattle.laws.proofs.Tests.{or_left, or_right}
use Rattle.ir.specs.declared.program.Counts.{Counts}
use Rattle.ir.specs.declared.frame.Shape.{Shape}
use Rattle.ir.specs.Shape.{over_shape}
use Rattle.ir.specs.Program.{most, most32, num_base_of, too_many_nodes, too_many_roots, short_tables}

-- counts that 8 lets through
pub record Few (c : Counts) : Type 0 where
  pub nodes : c.nodes ≤ most
  pub bases : c.bases ≤ most
  pub exts : c.exts ≤ most

pub few : (c : Counts) → too_many_nodes c ≡ false → Few c
unfolding too_many_nodes
few c h =
    let a = or_left (ltb most c.nodes || ltb most c.bases) (ltb most c.exts) h in
    record {
      nodes = ltb-false _ _ (or_left (ltb most c.nodes) (ltb most c.bases) a);
      bases = ltb-false _ _ (or_right (ltb most c.nodes) (ltb most c.bases) a);
      exts = ltb-false _ _ (or_right (ltb most c.nodes || ltb most c.bases) (ltb most c.exts) h);
    }

-- tables that 1 lets through
pub record Long (c : Counts) (nodes bases exts roots : ℕ) : Type 0 where
  pub nodes_long : 4 * c.nodes ≤ nodes
  pub bases_long : c.bases ≤ bases
  pub exts_long : 3 * c.exts ≤ exts
  pub roots_long : c.roots ≤ roots

pub long : (c : Counts) (nodes bases exts roots : ℕ) → short_tables c nodes bases exts roots ≡ false → Long c nodes bases exts roots
unfolding short_tables
long c nodes bases exts roots h =
    let n = ltb nodes (4 * c.nodes) in
    let b = ltb bases c.bases in
    let x = ltb exts (3 * c.exts) in
    let r = ltb roots c.roots in
    let h₃ = or_left (n || b || x) r h in
    let h₂ = or_left (n || b) x h₃ in
    record {
      nodes_long = ltb-false _ _ (or_left n b h₂);
      bases_long = ltb-false _ _ (or_right n b h₂);
      exts_long = ltb-false _ _ (or_right (n || b) x h₃);
      roots_long = ltb-false _ _ (or_right (n || b || x) r h);
    }

-- shapes that 2 lets through
pub record Within (s : Shape) : Type 0 where
  pub steps : s.steps ≤ 256
  pub main : s.main ≤ 65536
  pub aux : s.aux ≤ 65536
  pub challenges : s.challenges ≤ 65536
  pub alphas : s.alphas ≤ 65536

pub within : (s : Shape) → over_shape s ≡ false → Within s
unfolding over_shape
within s h =
    let a = ltb 256 s.steps in
    let b = ltb 65536 s.main in
    let c = ltb 65536 s.aux in
    let d = ltb 65536 s.challenges in
    let e = ltb 65536 s.alphas in
    let h₄ = or_left (a || b || c || d) e h in
    let h₃ = or_left (a || b || c) d h₄ in
    let h₂ = or_left (a || b) c h₃ in
    record {
      steps = ltb-false _ _ (or_left a b h₂);
      main = ltb-false _ _ (or_right a b h₂);
      aux = ltb-false _ _ (or_right (a || b) c h₃);
      challenges = ltb-false _ _ (or_right (a || b || c) d h₄);
      alphas = ltb-false _ _ (or_right (a || b || c || d) e h);
    }

-- counts that 9 lets through
pub record FewRoots (c : Counts) : Type 0 where
  pub leading : num_base_of c ≤ most32
  pub roots : c.roots ≤ most32

pub few_roots : (c : Counts) → too_many_roots c ≡ false → FewRoots c
unfolding too_many_roots
few_roots c h =
    record {
      leading = ltb-false _ _ (or_left (ltb most32 (num_base_of c)) (ltb most32 c.roots) h);
      roots = ltb-false _ _ (or_right (ltb most32 (num_base_of c)) (ltb most32 c.roots) h);
    }
