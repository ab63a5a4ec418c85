use Rattle.std.proofs.Common.{◌≡◌, ◌<◌, false, nat_eq, get_or, Some, slice_get, take, length, inl, inr, sym, ◌∙◌, subst, arith}
use Rattle.std.proofs.lemmas.Bool.{cases_Bool, eqb-true, false≢true}
use Rattle.fws_flat.specs.Walk.{sees}
use Rattle.fws_net.specs.Conditions.{holds}
use Rattle.fws_exec.specs.Classes.{transit_of}
use Rattle.fws_exec.specs.Sheets.{among}
use Rattle.fws_exec.specs.Views.{is_in}
use Rattle.fws_exec.proofs.Listing.{among_more, any_all, or_map, or_cases}
use Rattle.fws_exec.proofs.roll.Roll.grouped.Goals as goal

pub loop-number-preserved : goal.loop-number-preserved
loop-number-preserved c =
    let lt : c.loop-number.number-index < length c.args.numbers.now = omega arith in
    record {
      inside = λ n h. among_more c.args.numbers.now c.loop-number.number-index n lt ∙ or_map (is_in c.loop-number.groups.all.items n) (nat_eq n (get_or c.args.numbers.now c.loop-number.number-index 0)) (among (take c.loop-number.number-index c.args.numbers.now) n) (c.loop-number.invariant.inside n) (c.in_ok-group.ensures.inside n h);
      left = λ n d a out got site kind part p. or_cases (holds c.args.cond.now (sees site kind part (transit_of d.progress p)) ≡ false) (among (take c.loop-number.number-index c.args.numbers.now) n) (nat_eq n (get_or c.args.numbers.now c.loop-number.number-index 0)) (sym (among_more c.args.numbers.now c.loop-number.number-index n lt) ∙ a)
          (λ before. c.loop-number.invariant.left n d before (elim (cases_Bool (is_in c.loop-number.groups.all.items n)) [ inl i ↦ absurd (false≢true (sym out ∙ c.in_ok-group.ensures.kept n i)) | inr i ↦ i ]) got site kind part p)
          (λ here. let is : n ≡ get_or c.args.numbers.now c.loop-number.number-index 0 = eqb-true n (get_or c.args.numbers.now c.loop-number.number-index 0) here in
          c.in_ok-group.ensures.left (subst (λ k. is_in c.group.new.groups.all.items k ≡ false) is out) d (subst (λ k. slice_get c.args.self.now.classes.items k ≡ Some d) is got) site kind part p);
    }

pub returns-clause-inside : goal.returns-clause-inside
returns-clause-inside c n h = sym (any_all (nat_eq n) c.args.numbers.now c.loop-number.number-index (omega arith)) ∙ c.loop-number.invariant.inside n h

pub returns-clause-left : goal.returns-clause-left
returns-clause-left c n d a out got site kind part p = c.loop-number.invariant.left n d (any_all (nat_eq n) c.args.numbers.now c.loop-number.number-index (omega arith) ∙ a) out got site kind part p
