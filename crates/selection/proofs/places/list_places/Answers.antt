use Rattle.std.proofs.Common.{◌≡◌, ◌<◌, ◌∙◌, sym, rules, length, arith}
use Rattle.std.specs.Prelude.{count_by}
use Rattle.selection.proofs.PlaceLaws.{counted_all, put_start, put_passed, put_failed, put_room, no_room, all_put}
use Rattle.selection.proofs.places.list_places.Goals.{then-test, else-test}
use Rattle.selection.proofs.places.list_places.Goals as goal

pub returns-then-out-count : goal.returns-then-out-count
returns-then-out-count g c =
    let count : c.loop-place.count ≡ count_by g.says.0 c.args.items.now = counted_all g.says.0 c.args.items.now c.loop-place.invariant (omega arith) in
    no_room g.says.0 c.args.items.now g.says.1 c.args.out.now count c.if-out-count.true

pub loop-i-init : goal.loop-i-init
loop-i-init g c = put_start _ _ _ _

pub bounds-out-at : goal.bounds-out-at
bounds-out-at g c =
    let count : c.loop-place.count ≡ count_by g.says.0 c.args.items.now = counted_all g.says.0 c.args.items.now c.loop-place.invariant (omega arith) in
    let says : c.test-in-loop-i.result ≡ g.says.0 c.index-items-i.result = search rules in
    let room = put_room g.says.0 c.args.items.now g.says.1 c.args.out.now c.index-items-i.result count c.if-out-count.false c.loop-i-test.true c.index-items-i.is (sym says ∙ c.if-test.true) c.loop-i.invariant in
    room.1

pub offset_bounds-out-at : goal.offset_bounds-out-at
offset_bounds-out-at g c =
    let count : c.loop-place.count ≡ count_by g.says.0 c.args.items.now = counted_all g.says.0 c.args.items.now c.loop-place.invariant (omega arith) in
    let says : c.test-in-loop-i.result ≡ g.says.0 c.index-items-i.result = search rules in
    let room : c.loop-i.at < length c.loop-i.out = (put_room g.says.0 c.args.items.now g.says.1 c.args.out.now c.index-items-i.result count c.if-out-count.false c.loop-i-test.true c.index-items-i.is (sym says ∙ c.if-test.true) c.loop-i.invariant).1 in
    search rules

pub overflow_add-at : goal.overflow_add-at
overflow_add-at g c =
    let count : c.loop-place.count ≡ count_by g.says.0 c.args.items.now = counted_all g.says.0 c.args.items.now c.loop-place.invariant (omega arith) in
    let says : c.test-in-loop-i.result ≡ g.says.0 c.index-items-i.result = search rules in
    let room = put_room g.says.0 c.args.items.now g.says.1 c.args.out.now c.index-items-i.result count c.if-out-count.false c.loop-i-test.true c.index-items-i.is (sym says ∙ c.if-test.true) c.loop-i.invariant in
    omega (arith, room.0)

pub loop-i-preserved : goal.loop-i-preserved
loop-i-preserved g c =
    let items = c.args.items.now in
    let x = c.index-items-i.result in
    let says : c.test-in-loop-i.result ≡ g.says.0 x = search rules in
    elim c.if-test.branch [
      | then-test w ↦
          let word : w.word.result ≡ g.says.1 c.loop-i.i = search rules in
          rw (w.at-is, w.out-is) (put_passed g.says.0 items g.says.1 c.args.out.now x w.word.result c.loop-i-test.true c.index-items-i.is (sym says ∙ w.if-test.true) word c.loop-i.invariant)
      | else-test w ↦
          rw (w.at-is, w.out-is) (put_failed g.says.0 items g.says.1 c.args.out.now x c.loop-i-test.true c.index-items-i.is (sym says ∙ w.if-test.false) c.loop-i.invariant)
    ]

pub returns : goal.returns
returns g c =
    let items = c.args.items.now in
    let count : c.loop-place.count ≡ count_by g.says.0 items = counted_all g.says.0 items c.loop-place.invariant (omega arith) in
    all_put g.says.0 items g.says.1 c.args.out.now count c.if-out-count.false (omega arith) c.loop-i.invariant
