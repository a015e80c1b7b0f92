-- Counts, shapes and blobs, from a call's numbers and words.
-- Assumes nothing.
use Rattle.std.specs.Prelude.{ℕ, List}
use Rattle.ir.specs.declared.program.Counts.{Counts}
use Rattle.ir.specs.declared.frame.Shape.{Shape}
use Rattle.blob_rules.specs.declared.blob.BlobCounts.{BlobCounts}
use Rattle.blob_rules.specs.Blob.{Blob}

-- a program's counts
abbrev pub counts : (n b x r leading : ℕ) → Counts
counts n b x r leading = record { nodes = n; bases = b; exts = x; roots = r; num_base = leading }

-- a frame's shape
abbrev pub shape : (steps width aux challenges alphas : ℕ) → Shape
shape steps width aux challenges alphas =
    record { steps = steps; main = width; aux = aux; challenges = challenges; alphas = alphas }

-- a blob's counts
abbrev pub blob_counts : (n b x r leading bs xs : ℕ) → BlobCounts
blob_counts n b x r leading bs xs =
    record { nodes = n; bases = b; exts = x; roots = r; num_base = leading; base_slots = bs; ext_slots = xs }

-- a blob, from counts and words
abbrev pub blob : BlobCounts → (nodes roots : List ℕ) → Blob
blob c nodes roots = record { counts = c; nodes = nodes; roots = roots }
