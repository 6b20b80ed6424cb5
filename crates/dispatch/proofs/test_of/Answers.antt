use lib.ListN.{get_or}
use mathlib.Core.Path.{◌≡◌, refl}
use native.Mathlib.Omega.{arith}
use Prim.Native.Nat.{◌<◌}
use Rattle.dispatch.proofs.Choices.{column_in, test-cell, test_is}
use Rattle.matrix.proofs.StepHeld.{clean_held, clean_wide}
use Rattle.matrix.specs.Mat.{view}
use Rattle.rules.specs.Bounds.{columns_max}
use Rattle.rules.specs.Dispatch.{test}
use Rattle.dispatch.proofs.test_of.Goals as goal

pub offset_bounds-value-at : goal.offset_bounds-value-at
offset_bounds-value-at c =
    let within : c.column_of-column.result.0 < columns_max = let m = c.args.m in
    let p = c.requires in
    omega (arith, c.column_of-column.ensures, column_in (view m) p.2, (clean_held m p.0).columns, clean_wide m p.0) in
    omega (arith, within)

pub bounds-value-at : goal.bounds-value-at
bounds-value-at c =
    let within : c.column_of-column.result.0 < columns_max = let m = c.args.m in
    let p = c.requires in
    omega (arith, c.column_of-column.ensures, column_in (view m) p.2, (clean_held m p.0).columns, clean_wide m p.0) in
    within

pub overflow_sub-result : goal.overflow_sub-result
overflow_sub-result c =
    let net_is : get_or c.args.m.value c.column_of-column.result.0 0 ≡ test (view c.args.m) = let m = c.args.m in
    let p = c.requires in
    test_is (view m) m.value m.columns _ refl (clean_held m p.0).columns p.2 c.column_of-column.ensures in
    omega (arith, net_is, test-cell (view c.args.m) c.requires.1 c.requires.2)

pub returns : goal.returns
returns c =
    let net_is : get_or c.args.m.value c.column_of-column.result.0 0 ≡ test (view c.args.m) = let m = c.args.m in
    let p = c.requires in
    test_is (view m) m.value m.columns _ refl (clean_held m p.0).columns p.2 c.column_of-column.ensures in
    omega (arith, net_is, test-cell (view c.args.m) c.requires.1 c.requires.2)
