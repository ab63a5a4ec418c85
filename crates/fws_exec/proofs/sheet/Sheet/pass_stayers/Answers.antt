use Rattle.std.proofs.Common.{◌+◌, ◌<◌, false, get_or, length, refl, sym, ◌∙◌, ap, subst}
use Rattle.std.proofs.lemmas.Bool.{false≢true}
use Rattle.std.proofs.lemmas.Option.{slice_get-get_or, slice_get_within}
use Rattle.fws_exec.specs.declared.sheet.Sheet.{Sheet}
use Rattle.fws_exec.specs.declared.spot.Spot.TheVariants.{At}
use Rattle.fws_exec.specs.Goings.{Goes}
use Rattle.fws_exec.specs.Sheets.{among, AreSent}
use Rattle.fws_exec.proofs.Coursing.{course_obeys, part_jumps, part_within}
use Rattle.fws_exec.proofs.Passed.{passed_none, passed_wide, same_futures, same_sheet, sent_kept, sent_sheet, stay_on}
use Rattle.fws_exec.proofs.Telling.{keeps_by, keeps_then}
use Rattle.fws_exec.proofs.sheet.Sheet.pass_stayers.Goals as goal

pub send_all-requires : goal.send_all-requires
send_all-requires c n a =
    let there = c.requires.here n (c.in_ok-stayers.ensures.inside n (ap (λ ns. among ns n) (sym c.as_slice-2.ensures.value) ∙ a)) in
    subst (λ cs. n < length cs) (ap (λ v. v.items) (sym c.wait_all.ensures)) (slice_get_within c.args.self.now.roll.classes.items n (record { spot = At c.args.place; progress = there.0 }) there.1)

pub returns-clause-sheet : goal.returns-clause-sheet
returns-clause-sheet c =
    same_sheet (record { canvas = c.args.self.now.canvas; roll = c.send_all.new.self; hulls = c.args.self.now.hulls; reached = c.args.self.now.reached }) (record { canvas = c.args.self.now.canvas; roll = c.find_all.new.self; hulls = c.args.self.now.hulls; reached = c.args.self.now.reached }) refl refl (ap (λ v. v.items) c.find_all.ensures)
    (sent_sheet (At (c.args.place + 1)) (among c.in_ok-stayers.stayers.items) c.args.self.now (record { canvas = c.args.self.now.canvas; roll = c.send_all.new.self; hulls = c.args.self.now.hulls; reached = c.args.self.now.reached }) refl refl refl
    (subst (λ ns. AreSent (At (c.args.place + 1)) (among ns) c.args.self.now.roll.classes.items c.send_all.new.self.classes.items) c.as_slice-2.ensures.value
    (subst (λ cs. AreSent (At (c.args.place + 1)) (among c.as_slice-2.result.now) cs c.send_all.new.self.classes.items) (ap (λ v. v.items) c.wait_all.ensures) c.send_all.ensures.sent))
    c.requires.sheet)

pub returns-clause-kept : goal.returns-clause-kept
returns-clause-kept c =
    let sent : Sheet = record { canvas = c.args.self.now.canvas; roll = c.send_all.new.self; hulls = c.args.self.now.hulls; reached = c.args.self.now.reached } in
    let found : Sheet = record { canvas = c.args.self.now.canvas; roll = c.find_all.new.self; hulls = c.args.self.now.hulls; reached = c.args.self.now.reached } in
    let got = slice_get-get_or c.args.errand.now.code.now c.args.place c.index-errand-place.result (part_within c.args.errand.now.code.now c.args.errand.now.part c.args.place c.requires.part c.requires.high) in
    let jumps = part_jumps c.args.errand.now.code.now c.args.errand.now.part c.args.place (get_or c.args.errand.now.code.now c.args.place c.index-errand-place.result) c.requires.part c.requires.low c.requires.high got in
    keeps_then c.args.errand.now c.args.self.now sent found
    (sent_kept c.args.errand.now (among c.in_ok-stayers.stayers.items) c.args.place (c.args.place + 1) c.args.self.now c.args.self.now sent c.requires.sheet c.requires.tops (λ n d used. used)
    (λ n a. c.requires.here n (c.in_ok-stayers.ensures.inside n a))
    (passed_wide c.args.errand.now (λ n. false) (among c.in_ok-stayers.stayers.items) c.args.place (c.args.place + 1) c.args.self.now c.args.self.now (λ n h. absurd (false≢true h))
    (λ n d a out is. stay_on c.args.errand.now c.args.place (get_or c.args.errand.now.code.now c.args.place c.index-errand-place.result) d.progress c.args.self.now.reached.items
    (λ aim p. course_obeys c.args.errand.now aim p c.args.place (get_or c.args.errand.now.code.now c.args.place c.index-errand-place.result) c.requires.high got jumps)
    (subst (λ g. Goes g 1 d.progress (record { spot = At (c.args.place + 1); progress = d.progress })) c.going-going.ensures (c.in_ok-stayers.ensures.stay n d a is)) c.requires.known)
    (passed_none c.args.errand.now (λ n. false) c.args.place (c.args.place + 1) c.args.self.now (λ n. refl)))
    refl refl
    (subst (λ ns. AreSent (At (c.args.place + 1)) (among ns) c.args.self.now.roll.classes.items c.send_all.new.self.classes.items) c.as_slice-2.ensures.value
    (subst (λ cs. AreSent (At (c.args.place + 1)) (among c.as_slice-2.result.now) cs c.send_all.new.self.classes.items) (ap (λ v. v.items) c.wait_all.ensures) c.send_all.ensures.sent)))
    (keeps_by c.args.errand.now sent found c.requires.tops refl (same_futures sent found refl (ap (λ v. v.items) c.find_all.ensures)))
