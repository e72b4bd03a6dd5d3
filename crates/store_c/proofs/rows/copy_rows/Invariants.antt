use Rattle.std.proofs.Common.{◌≡◌, ◌++◌}
use Rattle.std.specs.Prelude.{drop, map, take}
use Rattle.store_c.proofs.rows.copy_rows.Given as goal

-- the rows so far, and the others as they were
abbrev pub invariant-loop-i : goal.invariant-loop-i
invariant-loop-i g l = l.rows ≡ map g.C.RowOf.shown (take l.i l.later) ++ drop l.i l.fn.rows
