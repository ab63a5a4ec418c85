use Rattle.std.proofs.Common.{[], ◌∷◌, refl}
use Rattle.fws_exec.specs.declared.spot.Spot.TheVariants.{Dropped}
use Rattle.fws_exec.specs.Classes.{is_inside}
use Rattle.fws_exec.specs.Sheets.{among}
use Rattle.fws_exec.proofs.Entering.{only_stands}
use Rattle.fws_exec.proofs.Routed.{admitted}
use Rattle.fws_exec.proofs.sheet.Sheet.admit.Goals as goal

pub returns-clause-between : goal.returns-clause-between
returns-clause-between c n =
    c.in_ok-move_by.ensures.grown.comes is_inside (λ l. refl) n (only_stands is_inside (record { spot = Dropped; progress = c.requires.class.0 }) c.args.self.now.roll.classes.items n c.requires.class.1 refl)

pub returns-clause-meant : goal.returns-clause-meant
returns-clause-meant c next p w =
    admitted c.args.sides.now c.of_sets-mark.result (among (0 ∷ [])) c.args.self.now c.move_by.new.self p next w refl (c.requires.value p) c.requires.class c.of_sets-mark.ensures.sides c.of_sets-mark.ensures.label
    c.in_ok-move_by.ensures.grown.grows c.in_ok-move_by.ensures.moved
