-- `lacks::lacking` meets its contract; the laws that it needs are in LackCuts.
use native.Mathlib.Omega.{arith}
use Rattle.std.proofs.Common.{sym, ◌∙◌}
use Rattle.std.proofs.lemmas.Bool.{not-false}
use Rattle.geometry.proofs.CellLaws.{some_of}
use Rattle.cover.proofs.SkipLaws.{fewer_behind}
use Rattle.area.proofs.LackCuts.{lack_four, x_ceiling_ends, x_floor_ends, y_ceiling_ends, y_floor_ends}
use Rattle.area.proofs.lacks.+lacking.Goals as goal

pub area-requires : goal.area-requires
area-requires t c =
    let s = some_of c.args.r (not-false _ (sym c.is_empty.ensures ∙ c.if-is_empty.false)) in
    omega arith

pub lacking-a-requires : goal.lacking-a-requires
lacking-a-requires t c =
    let e = c.decreases in
    let f = fewer_behind _ _ _ _ c.in-Some.ensures in
    let w = x_ceiling_ends _ _ _ _ c.in-Some.ensures c.requires.urx_bound c.requires.ury_bound _ c.x_ceiling.ensures in
    (omega arith, (w.x_most, w.y_most))

pub lacking-requires : goal.lacking-requires
lacking-requires t c =
    let e = c.decreases in
    let f = fewer_behind _ _ _ _ c.in-Some.ensures in
    let w = x_floor_ends _ _ _ _ c.in-Some.ensures c.requires.urx_bound c.requires.ury_bound _ c.x_floor.ensures in
    (omega arith, (w.x_most, w.y_most))

pub lacking-requires-2 : goal.lacking-requires-2
lacking-requires-2 t c =
    let e = c.decreases in
    let f = fewer_behind _ _ _ _ c.in-Some.ensures in
    let w = y_ceiling_ends _ _ _ _ c.in-Some.ensures c.requires.urx_bound c.requires.ury_bound _ c.y_ceiling.ensures in
    (omega arith, (w.x_most, w.y_most))

pub lacking-requires-3 : goal.lacking-requires-3
lacking-requires-3 t c =
    let e = c.decreases in
    let f = fewer_behind _ _ _ _ c.in-Some.ensures in
    let w = y_floor_ends _ _ _ _ c.in-Some.ensures c.requires.urx_bound c.requires.ury_bound _ c.y_floor.ensures in
    (omega arith, (w.x_most, w.y_most))

pub returns : goal.returns
returns t c =
    lack_four _ _ _ _ c.in-Some.ensures _
    _ _ _ _ c.x_ceiling.ensures c.x_floor.ensures c.y_ceiling.ensures c.y_floor.ensures
    _ _ _ _ c.lacking-a.ensures c.lacking.ensures c.lacking-2.ensures c.lacking-3.ensures
