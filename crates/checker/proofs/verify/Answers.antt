use Rattle.std.proofs.Common.{◌≡◌, Ok, Err, sym, ap, ◌∙◌, subst, arith, lit<}
use Rattle.std.proofs.lemmas.Result.{err_from_is_err_and}
use Rattle.catalogue.specs.Records.{slot, header, row, weight, end, read_at}
use Rattle.checker.specs.Model.{entered_as, entry_of, BodyLies, Part, head_len}
use Rattle.checker.proofs.Judging.{reached_none, cut_off_there, ends_there, refused_there, goes_by}
use Rattle.checker.proofs.Stepping.{head_ends, head_some}
use Rattle.checker.proofs.verify.Goals as goal
use Rattle.checker.proofs.verify.Goals.{In-Slot, In-Header, In-Row, In-Weight}

pub records-init : goal.records-init
records-init c = (omega arith, reached_none c.args.bytes.now _ (c.new-progress.ensures c.args.bytes.now))

pub returns-in_err-body : goal.returns-in_err-body
returns-in_err-body c =
    let e = err_from_is_err_and c.from_residual.result c.from_residual.ensures.1 in
    let i = c.records.invariant in
    e.1 ∙ ap Err e.2 ∙ cut_off_there c.args.bytes.now c.records.at c.records.progress i.0 i.1 _ c.in_err-body.ensures.is

pub returns-in-End : goal.returns-in-End
returns-in-End c =
    let i = c.records.invariant in
    let is : Ok end ≡ read_at c.args.bytes.now c.records.at = ap (λ x. entered_as (Ok x)) (sym c.in-End.is) ∙ c.in_ok-body.ensures.is in
    ends_there c.args.bytes.now c.records.at c.records.progress i.0 i.1 _ is c.finish.ensures

-- a slot
is_slot : (c : In-Slot) → Ok (slot c.in-Slot.body.now) ≡ read_at c.args.bytes.now c.records.at
is_slot c = ap (λ x. entered_as (Ok x)) (sym c.in-Slot.is) ∙ c.in_ok-body.ensures.is

pub returns-in_err-add_slot-in-Slot : goal.returns-in_err-add_slot-in-Slot
returns-in_err-add_slot-in-Slot c =
    let e = err_from_is_err_and c.from_residual-in_err-add_slot-in-Slot.result c.from_residual-in_err-add_slot-in-Slot.ensures.1 in
    let bs = c.args.bytes.now in
    let i = c.records.invariant in
    e.1 ∙ ap Err e.2 ∙ refused_there bs c.records.at c.records.progress i.0 i.1 _ c.add_slot.new.self (is_slot (goal.at.returns-in_err-add_slot-in-Slot c).In-Slot) _ (c.in_err-add_slot-in-Slot.ensures bs)

pub records-preserved-in-Slot : goal.records-preserved-in-Slot
records-preserved-in-Slot c =
    let bs = c.args.bytes.now in
    let i = c.records.invariant in
    let lies : Part bs c.records.at 1 c.in-Slot.body.now = subst (λ x. BodyLies bs c.records.at (entry_of x)) c.in-Slot.is c.in_ok-body.ensures.lies in
    let size = c.len-at.ensures in
    (omega (arith, lies.within), goes_by bs c.records.at c.records.progress i.0 i.1 _ c.add_slot.new.self (is_slot (goal.at.records-preserved-in-Slot c).In-Slot) tt (lit< tt) (c.in_ok-add_slot-in-Slot.ensures bs) _ size)

-- a header
is_header : (c : In-Header) → Ok (header c.in-Header.make c.in-Header.body.now) ≡ read_at c.args.bytes.now c.records.at
is_header c = ap (λ x. entered_as (Ok x)) (sym c.in-Header.is) ∙ c.in_ok-body.ensures.is

pub returns-in_err-add_header-in-Header : goal.returns-in_err-add_header-in-Header
returns-in_err-add_header-in-Header c =
    let e = err_from_is_err_and c.from_residual-in_err-add_header-in-Header.result c.from_residual-in_err-add_header-in-Header.ensures.1 in
    let bs = c.args.bytes.now in
    let i = c.records.invariant in
    e.1 ∙ ap Err e.2 ∙ refused_there bs c.records.at c.records.progress i.0 i.1 _ c.add_header.new.self (is_header (goal.at.returns-in_err-add_header-in-Header c).In-Header) _ (c.in_err-add_header-in-Header.ensures bs)

pub records-preserved-in-Header : goal.records-preserved-in-Header
records-preserved-in-Header c =
    let bs = c.args.bytes.now in
    let i = c.records.invariant in
    let lies : Part bs c.records.at (head_len c.in-Header.make) c.in-Header.body.now = subst (λ x. BodyLies bs c.records.at (entry_of x)) c.in-Header.is c.in_ok-body.ensures.lies in
    let m = c.in-Header.make in
    let ends = head_ends c.records.at m c.in-Header.body.now lies.long in
    (omega (arith, lies.within, lies.long), goes_by bs c.records.at c.records.progress i.0 i.1 _ c.add_header.new.self (is_header (goal.at.records-preserved-in-Header c).In-Header) tt (head_some m) (c.in_ok-add_header-in-Header.ensures bs) _ (omega (arith, ends)))

-- a row
is_row : (c : In-Row) → Ok (row c.in-Row.body.now) ≡ read_at c.args.bytes.now c.records.at
is_row c = ap (λ x. entered_as (Ok x)) (sym c.in-Row.is) ∙ c.in_ok-body.ensures.is

pub returns-in_err-add_row-in-Row : goal.returns-in_err-add_row-in-Row
returns-in_err-add_row-in-Row c =
    let e = err_from_is_err_and c.from_residual-in_err-add_row-in-Row.result c.from_residual-in_err-add_row-in-Row.ensures.1 in
    let bs = c.args.bytes.now in
    let i = c.records.invariant in
    e.1 ∙ ap Err e.2 ∙ refused_there bs c.records.at c.records.progress i.0 i.1 _ c.add_row.new.self (is_row (goal.at.returns-in_err-add_row-in-Row c).In-Row) _ c.in_err-add_row-in-Row.ensures

pub records-preserved-in-Row : goal.records-preserved-in-Row
records-preserved-in-Row c =
    let bs = c.args.bytes.now in
    let i = c.records.invariant in
    let lies : Part bs c.records.at 8 c.in-Row.body.now = subst (λ x. BodyLies bs c.records.at (entry_of x)) c.in-Row.is c.in_ok-body.ensures.lies in
    let size = c.len-at-in-Row.ensures in
    (omega (arith, lies.within), goes_by bs c.records.at c.records.progress i.0 i.1 _ c.add_row.new.self (is_row (goal.at.records-preserved-in-Row c).In-Row) tt (lit< tt) c.in_ok-add_row-in-Row.ensures _ size)

-- a weight
is_weight : (c : In-Weight) → Ok (weight c.in-Weight.body.now) ≡ read_at c.args.bytes.now c.records.at
is_weight c = ap (λ x. entered_as (Ok x)) (sym c.in-Weight.is) ∙ c.in_ok-body.ensures.is

pub returns-in_err-add_weight-in-Weight : goal.returns-in_err-add_weight-in-Weight
returns-in_err-add_weight-in-Weight c =
    let e = err_from_is_err_and c.from_residual-in_err-add_weight-in-Weight.result c.from_residual-in_err-add_weight-in-Weight.ensures.1 in
    let bs = c.args.bytes.now in
    let i = c.records.invariant in
    e.1 ∙ ap Err e.2 ∙ refused_there bs c.records.at c.records.progress i.0 i.1 _ c.records.progress (is_weight (goal.at.returns-in_err-add_weight-in-Weight c).In-Weight) _ c.in_err-add_weight-in-Weight.ensures

pub records-preserved : goal.records-preserved
records-preserved c =
    let bs = c.args.bytes.now in
    let i = c.records.invariant in
    let lies : Part bs c.records.at 4 c.in-Weight.body.now = subst (λ x. BodyLies bs c.records.at (entry_of x)) c.in-Weight.is c.in_ok-body.ensures.lies in
    let size = c.len-at-in-Weight.ensures in
    (omega (arith, lies.within), goes_by bs c.records.at c.records.progress i.0 i.1 _ c.records.progress (is_weight (goal.at.records-preserved c).In-Weight) tt (lit< tt) c.in_ok-add_weight-in-Weight.ensures _ size)
