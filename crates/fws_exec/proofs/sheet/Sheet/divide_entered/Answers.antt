use Rattle.std.proofs.Common.{slice_index, inl, inr, refl, sym, ◌∙◌, ap, subst}
use Rattle.std.proofs.lemmas.Bool.{false≢true}
use Rattle.fws_box.specs.Sides.{IsWithin}
use Rattle.fws_exec.specs.declared.going.Going.TheVariants as goings
use Rattle.fws_exec.specs.declared.spot.Spot.TheVariants.{Before}
use Rattle.fws_exec.specs.declared.spot.Stage.TheVariants.{Arrive, Send}
use Rattle.fws_exec.specs.Classes.{is_inside}
use Rattle.fws_exec.specs.Divided.{held, seen_at, AreMoved}
use Rattle.fws_exec.specs.Sheets.{among}
use Rattle.fws_exec.proofs.Entering.{host_test, entry_low}
use Rattle.fws_exec.proofs.Routed.{between, came_in, send_apart}
use Rattle.fws_exec.proofs.sheet.Sheet.divide_entered.Goals as goal

pub divide_all-requires-clause-here : goal.divide_all-requires-clause-here
divide_all-requires-clause-here c = (Before Arrive, refl, λ n a. c.in_ok-numbers.ensures.here n (ap (λ ns. among ns n) (sym c.as_slice.ensures.value) ∙ a), λ l e. send_apart e)

pub returns-clause-between : goal.returns-clause-between
returns-clause-between c n = c.in_ok-divide_all.ensures.grown.comes is_inside (λ l. refl) n (c.requires.between n)

pub returns-clause-meant : goal.returns-clause-meant
returns-clause-meant c next p w =
    let site = c.args.ground.now.site.now in
    let state = c.args.ground.now.state in
    came_in site state between c.in_ok-cond.cond (among c.in_ok-numbers.numbers.items) c.args.self.now c.divide_all.new.self p next c.requires.sheet (subst (λ ts. IsWithin ts p) (sym c.requires.tops) w)
    (λ g. host_test c.in_ok-cond.cond (seen_at site state between g p) (slice_index p 0) refl (c.in_ok-cond.ensures (seen_at site state between g p)) (entry_low site p c.requires.ground.sound w))
    c.in_ok-numbers.ensures.here c.in_ok-numbers.ensures.all c.in_ok-divide_all.ensures.grown.grows
    (subst (λ ns. AreMoved (goings.To (Before Send)) (among ns) (held site state between c.in_ok-cond.cond) c.args.self.now c.divide_all.new.self) c.as_slice.ensures.value c.in_ok-divide_all.ensures.moved)

pub returns-clause-count : goal.returns-clause-count
returns-clause-count c = c.in_ok-divide_all.ensures.noted.tells.count

pub returns-clause-none : goal.returns-clause-none
returns-clause-none c none k got = elim (c.in_ok-divide_all.ensures.noted.tells.found k got) [
  | inl before ↦ none k before
  | inr met ↦ false≢true met.1.5
]
