-- Runs: instructions in a row that all send the packets out of the run for which their conditions hold.
use Rattle.std.specs.Prelude.{ℕ, ◌+◌, ◌-◌, Bool, true, false, nat_eq, nat_le, List, [], ◌∷◌, take, drop, if◌then◌else◌}
use Rattle.fws_box.specs.Boxes.{box_hits}
use Rattle.fws_box.specs.declared.pbox.PBox.{PBox}
use Rattle.fws_flat.specs.declared.code.FlatAct.{FlatAct}
use Rattle.fws_flat.specs.declared.code.FlatAct.TheVariants.{Accept, Drop, Jump}
use Rattle.fws_flat.specs.declared.code.Ins.{Ins}
use Rattle.fws_net.specs.declared.view.View.{View}
use Rattle.fws_net.specs.Conditions.{holds}
use Rattle.fws_exec.specs.Goings.{label_of}

-- the instructions from a place on, before another
abbrev pub run_of : List Ins → ℕ → ℕ → List Ins
run_of code place past = take (past - place) (drop place code)

-- the act ends the way of a packet through the part, or sends it to the place past or behind it
abbrev pub leaves : ℕ → FlatAct → Bool
leaves past Accept = true
leaves past Drop = true
leaves past (Jump to) = nat_le past to
leaves past _ = false

-- a label where one of the boxes has the point, else the rest
abbrev pub boxed : List PBox → ℕ → ℕ → List ℕ → ℕ
boxed boxes label rest p = if nat_eq (box_hits boxes p) 0 then rest else label

-- the label of the first instruction whose condition holds, in a run that begins at a place; 0 if there is none
abbrev pub picked : ℕ → View → List Ins → ℕ
picked place v [] = 0
picked place v (ins ∷ code) = if holds ins.cond v then label_of place ins.act else picked place v code

-- the number of the first instruction whose condition holds, of which the first one has a number; 0 if there is none
abbrev pub numbered : ℕ → View → List Ins → ℕ
numbered n v [] = 0
numbered n v (ins ∷ code) = if holds ins.cond v then n else numbered (n + 1) v code
