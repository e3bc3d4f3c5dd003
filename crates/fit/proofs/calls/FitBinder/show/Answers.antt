use Rattle.std.proofs.Common.{◌+◌, ◌-◌, length, get_or, take, sym, ap, subst, arith}
use borrow.Rule.Slice.PartMut.{mid_of, put_mid}
use Rattle.fit.specs.Rows.{Whole, Low, Gathered}
use Rattle.fit.specs.Meaning.{laid_out}
use Rattle.fit.proofs.Showing.{whole_before, low_before, sifted_here, left_here, laid_sifted, whole_after, low_after, exact, shown, at_sheet, narrowed_all}
use Rattle.fit.proofs.calls.FitBinder.show.Goals as goal

pub sift-left-requires : goal.sift-left-requires
sift-left-requires c =
    let s = c.args.self.now in
    let x = laid_out _ _ _ _ _ _ _ s.laid in
    let hs = c.in_ok-shown.ensures.0 in
    let scope = ap (λ v. v.scope) c.in_ok-shown.ensures.1 in
    let entries = ap (λ v. v.entries) c.in_ok-shown.ensures.1 in
    let from = get_or s.starts c.args.sheet 0 in
    let k = from + get_or s.counts c.args.sheet 0 - from in
    record {
      whole = subst (Whole _) (sym entries) (whole_before _ _ _ _ _ _ _ x _ hs k (omega arith) (omega arith));
      low = at_sheet _ _ _ _ (λ sc es. Low (mid_of from k s.order) es (length sc)) (sym scope) (sym entries) (low_before _ _ _ _ _ _ _ x _ hs k (omega arith) (omega arith));
    }

pub supports-masks-requires : goal.supports-masks-requires
supports-masks-requires c =
    let s = c.args.self.now in
    let x = laid_out _ _ _ _ _ _ _ s.laid in
    let hs = c.in_ok-shown.ensures.0 in
    let scope = ap (λ v. v.scope) c.in_ok-shown.ensures.1 in
    let entries = ap (λ v. v.entries) c.in_ok-shown.ensures.1 in
    let done = sifted_here _ _ _ _ _ _ _ x _ hs _ _ _ _ _ _ scope entries (omega arith) (omega arith) c.sift-left.ensures in
    let rows = left_here _ _ _ _ _ _ _ x _ hs _ _ _ _ _ _ scope entries (omega arith) (omega arith) c.sift-left.ensures in
    let from = get_or s.starts c.args.sheet 0 in
    let k = from + get_or s.counts c.args.sheet 0 - from in
    record {
      whole = subst (Whole _) (sym entries) (whole_after _ _ _ _ _ _ _ x _ hs _ _ _ done _ rows);
      low = at_sheet _ _ _ _ (λ sc es. Low (take c.sift-left.result (mid_of from k (put_mid from k s.order c.sift-left.new.run))) es (length sc)) (sym scope) (sym entries) (low_after _ _ _ _ _ _ _ x _ hs _ _ _ done _ rows);
    }

pub invariant_of-self : goal.invariant_of-self
invariant_of-self c =
    let x = laid_out _ _ _ _ _ _ _ c.args.self.now.laid in
    let hs = c.in_ok-shown.ensures.0 in
    let scope = ap (λ v. v.scope) c.in_ok-shown.ensures.1 in
    let entries = ap (λ v. v.entries) c.in_ok-shown.ensures.1 in
    record { laid = ∣ laid_sifted _ _ _ _ _ _ _ x _ hs _ _ _ (sifted_here _ _ _ _ _ _ _ x _ hs _ _ _ _ _ _ scope entries (omega arith) (omega arith) c.sift-left.ensures) ∣₁ }

pub returns : goal.returns
returns c =
    let s = c.args.self.now in
    let x = laid_out _ _ _ _ _ _ _ s.laid in
    let hs = c.in_ok-shown.ensures.0 in
    let scope = ap (λ v. v.scope) c.in_ok-shown.ensures.1 in
    let entries = ap (λ v. v.entries) c.in_ok-shown.ensures.1 in
    let done = sifted_here _ _ _ _ _ _ _ x _ hs _ _ _ _ _ _ scope entries (omega arith) (omega arith) c.sift-left.ensures in
    let rows = left_here _ _ _ _ _ _ _ x _ hs _ _ _ _ _ _ scope entries (omega arith) (omega arith) c.sift-left.ensures in
    let from = get_or s.starts c.args.sheet 0 in
    let k = from + get_or s.counts c.args.sheet 0 - from in
    let masks = at_sheet _ _ _ _ (λ sc es. Gathered c.args.slate.now.cells sc (take c.sift-left.result (mid_of from k (put_mid from k s.order c.sift-left.new.run))) es c.supports-masks.result (length sc)) scope entries c.supports-masks.ensures in
    let narrow = narrowed_all _ _ _ _ _ (x.sound.short _ hs) masks.long scope c.keep_only.ensures in
    record {
      shown = (hs, shown _ _ _ _ _ _ _ x _ hs _ _ _ done _ _ _ rows masks narrow);
      exact = exact _ _ _ _ _ _ _ x _ hs _ _ _ done;
    }

pub slice_bounds-run-end : goal.slice_bounds-run-end
slice_bounds-run-end c =
    let x = laid_out _ _ _ _ _ _ _ c.args.self.now.laid in
    let hs = c.in_ok-shown.ensures.0 in
    omega (arith, x.room _ hs, x.within _ hs)
