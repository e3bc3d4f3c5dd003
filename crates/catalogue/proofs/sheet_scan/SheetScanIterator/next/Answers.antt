use Rattle.std.proofs.Common.{◌+◌, ◌-◌, ◌<◌, ◌≤◌, length, take, drop, sym, ap, ◌∙◌, subst, arith, w32, SFits, rules}
use Rattle.std.proofs.lemmas.List.{take_rest, length-drop}
use Rattle.std.proofs.lemmas.Int.{to_z-of_z}
use Rattle.catalogue.specs.Checks.{scope_of, cap_of}
use Rattle.catalogue.specs.Places.{past, Ahead}
use Rattle.catalogue.proofs.Scan.{entries_order, entries_end_inside}
use Rattle.catalogue.proofs.Walk.{header_here, header_low, entry_same, gives_first, stands_at}
use Rattle.catalogue.proofs.sheet_scan.SheetScanIterator.next.Goals as goal

pub scope_of-requires : goal.scope_of-requires
scope_of-requires c =
    let bs = c.args.self.now.bytes.now in
    let at = c.args.self.now.at in
    let p = (header_here c.in_ok-kind.kind c.len.result c.in_ok-kind.ensures c.in_ok-make.ensures c.len.ensures c.requires.ahead).1 in
    rw (take_rest bs (at + 1)) (omega (arith, p.few, p.header, p.long, header_low c.in_ok-make.make, length-drop (at + 1) bs))

pub slice_bounds-view-count : goal.slice_bounds-view-count
slice_bounds-view-count c =
    let q = header_here c.in_ok-kind.kind c.len.result c.in_ok-kind.ensures c.in_ok-make.ensures c.len.ensures c.requires.ahead in
    let ends = c.entries_end-end.ensures q.0.to q.1.entries in
    omega (arith, entries_order q.1.entries)

pub slice_bounds-view-start : goal.slice_bounds-view-start
slice_bounds-view-start c =
    let q = header_here c.in_ok-kind.kind c.len.result c.in_ok-kind.ensures c.in_ok-make.ensures c.len.ensures c.requires.ahead in
    let ends = c.entries_end-end.ensures q.0.to q.1.entries in
    let h : c.args.self.now.at + c.len.result ≤ c.entries_end-end.result = omega (arith, entries_order q.1.entries) in
    search rules

pub slice_bounds-view-end : goal.slice_bounds-view-end
slice_bounds-view-end c =
    let q = header_here c.in_ok-kind.kind c.len.result c.in_ok-kind.ensures c.in_ok-make.ensures c.len.ensures c.requires.ahead in
    let ends = c.entries_end-end.ensures q.0.to q.1.entries in
    let h : c.entries_end-end.result < length c.args.self.now.bytes.now = omega (arith, entries_end_inside q.1.entries) in
    search rules

pub returns-clause-steps : goal.returns-clause-steps
returns-clause-steps c =
    λ ts a.
    let bs = c.args.self.now.bytes.now in
    let at = c.args.self.now.at in
    let m = c.in_ok-make.make in
    let q = header_here c.in_ok-kind.kind c.len.result c.in_ok-kind.ensures c.in_ok-make.ensures c.len.ensures a in
    let h = q.0 in
    let p = q.1 in
    let l = h.lies in
    let ends = c.entries_end-end.ensures h.to p.entries in
    let fits : SFits w32 c.cap_of.result = search rules in
    let body = take_rest bs (at + 1) in
    let same = entry_same _ _ _ _ _ _ _ _ (sym h.make) (c.scope_of.ensures ∙ ap scope_of body ∙ l.scope) (to_z-of_z w32 c.cap_of.result fits ∙ c.cap_of.ensures ∙ ap (cap_of m) body ∙ ap (λ k. cap_of k (drop (at + 1) bs)) (sym h.make) ∙ l.«cap») (ap (λ n. take (c.entries_end-end.result - n) (drop n bs)) p.behind ∙ ap (λ n. take (n - past bs at) (drop (past bs at) bs)) ends ∙ l.shown) in
    gives_first _ _ ts h.sheet h.rest h.is same (subst (λ n. Ahead bs n h.rest) (sym ends) h.ahead)

pub returns-clause-goes : goal.returns-clause-goes
returns-clause-goes c =
    let bs = c.args.self.now.bytes.now in
    let q = header_here c.in_ok-kind.kind c.len.result c.in_ok-kind.ensures c.in_ok-make.ensures c.len.ensures c.requires.ahead in
    let h = q.0 in
    let ends = c.entries_end-end.ensures h.to q.1.entries in
    let a = subst (λ n. Ahead bs n h.rest) (sym ends) h.ahead in
    let stands = stands_at _ h.rest a in
    let inside = q.1.header in
    let order = entries_order q.1.entries in
    let long = header_low c.in_ok-make.make in
    record { on = λ _. (stands, tt, omega (arith, q.1.long)); keeps = stands; rests = λ _. tt }
