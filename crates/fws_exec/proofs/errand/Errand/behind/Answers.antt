use Rattle.std.proofs.Common.{◌≡◌, ◌≢◌, ℕ, ◌+◌, ◌<◌, ◌≤◌, false, Option, Some, None, slice_get, get_or, refl, arith}
use Rattle.std.specs.Prelude.{IfSome}
use Rattle.std.proofs.lemmas.Option.{slice_get-get_or}
use Rattle.fws_flat.specs.declared.code.FlatAct.TheVariants as acts
use Rattle.fws_exec.specs.Classes.{kind_of, transit_of}
use Rattle.fws_exec.specs.Divided.{seen_at}
use Rattle.fws_exec.specs.Looks.{GoesOn}
use Rattle.fws_exec.proofs.Coursing.{course_obeys, part_jumps, part_within}
use Rattle.fws_exec.proofs.Looking.{fails_on, jumps_on}
use Rattle.fws_exec.proofs.Telling.{unsought}
use Rattle.fws_exec.proofs.errand.Errand.behind.Goals as goal

pub returns-then-fails : goal.returns-then-fails
returns-then-fails c =
    let got = slice_get-get_or c.args.self.now.code.now c.args.place c.index-self-place.result (part_within c.args.self.now.code.now c.args.self.now.part c.args.place c.requires.part c.requires.high) in
    let ahead : c.args.place < c.args.place + 1 = omega arith in
    let within : c.args.place + 1 ≤ c.args.self.now.part.past = (let high = c.requires.high in omega arith) in (
      ahead,
      within,
      λ aim p free s. fails_on c.args.self.now aim p c.args.place (get_or c.args.self.now.code.now c.args.place c.index-self-place.result) (transit_of c.args.progress.now p)
          (course_obeys c.args.self.now aim p c.args.place (get_or c.args.self.now.code.now c.args.place c.index-self-place.result) c.requires.high got (part_jumps c.args.self.now.code.now c.args.self.now.part c.args.place (get_or c.args.self.now.code.now c.args.place c.index-self-place.result) c.requires.part c.requires.low c.requires.high got))
          (c.fails.ensures.never c.if-fails.true c.args.self.now.ground.site.now (kind_of c.args.self.now.ground.state p) c.args.self.now.part p),
    )

pub returns-in-Fails : goal.returns-in-Fails
returns-in-Fails c =
    let got = slice_get-get_or c.args.self.now.code.now c.args.place c.index-self-place.result (part_within c.args.self.now.code.now c.args.self.now.part c.args.place c.requires.part c.requires.high) in
    let ahead : c.args.place < c.args.place + 1 = omega arith in
    let within : c.args.place + 1 ≤ c.args.self.now.part.past = (let high = c.requires.high in omega arith) in (
      ahead,
      within,
      λ aim p free s. fails_on c.args.self.now aim p c.args.place (get_or c.args.self.now.code.now c.args.place c.index-self-place.result) (transit_of c.args.progress.now p)
          (course_obeys c.args.self.now aim p c.args.place (get_or c.args.self.now.code.now c.args.place c.index-self-place.result) c.requires.high got (part_jumps c.args.self.now.code.now c.args.self.now.part c.args.place (get_or c.args.self.now.code.now c.args.place c.index-self-place.result) c.requires.part c.requires.low c.requires.high got))
          (c.in-Fails.ensures (seen_at c.args.self.now.ground.site.now c.args.self.now.ground.state c.args.self.now.part c.args.progress.now p) s refl),
    )

pub returns-in-Holds : goal.returns-in-Holds
returns-in-Holds c = by c.free_jump.result c.free_jump.ensures
  where
    by : (o : Option ℕ) → IfSome o (λ to. ((get_or c.args.self.now.code.now c.args.place c.index-self-place.result).act ≡ acts.Jump to) × (slice_get c.args.reached.now c.args.place ≢ Some false))
        → IfSome o (λ to. (c.args.place < to) × (to ≤ c.args.self.now.part.past) × GoesOn c.args.self.now c.args.reached.now c.args.look.now c.args.progress.now c.args.place to)
    by None h = tt
    by (Some to) h =
        let got = slice_get-get_or c.args.self.now.code.now c.args.place c.index-self-place.result (part_within c.args.self.now.code.now c.args.self.now.part c.args.place c.requires.part c.requires.high) in
        let jumps = part_jumps c.args.self.now.code.now c.args.self.now.part c.args.place (get_or c.args.self.now.code.now c.args.place c.index-self-place.result) c.requires.part c.requires.low c.requires.high got in (
          (jumps to h.0).0,
          (jumps to h.0).1,
          λ aim p free s. jumps_on c.args.self.now aim p c.args.place to (get_or c.args.self.now.code.now c.args.place c.index-self-place.result) (transit_of c.args.progress.now p)
              (course_obeys c.args.self.now aim p c.args.place (get_or c.args.self.now.code.now c.args.place c.index-self-place.result) c.requires.high got jumps)
              (unsought c.args.reached.now aim c.args.place free h.1) h.0 (jumps to h.0).0
              (c.in-Holds.ensures (seen_at c.args.self.now.ground.site.now c.args.self.now.ground.state c.args.self.now.part c.args.progress.now p) s refl),
        )
