use Rattle.std.proofs.Common.{◌≡◌, ◌+◌, ◌<◌, ◌≤◌, ◌++◌, length, drop, append-nil, arith, sym, ◌∙◌, ap}
use Rattle.std.proofs.lemmas.List.{drop_all, drop_more}
use Rattle.fws_flat.specs.Uses.{parts_used}
use Rattle.fws_flat.specs.Walk.{parts_walk}
use Rattle.fws_flat.proofs.Walks.{parts_on, parts_dropped, log_parts_on, log_parts_dropped}
use Rattle.fws_flat.proofs.model.walking.parts_walk.Goals as goal

pub returns-in-None-clause-walked : goal.returns-in-None-clause-walked
returns-in-None-clause-walked c =
    let trip = c.args.trip.now in
    let flat = trip.flat.now in
    let parts = c.args.parts.now in
    let at = c.loop-part.part-index in
    let within : at < length parts = omega arith in
    parts_dropped flat.code trip.site.now trip.packet.now trip.kind.now _ (drop (at + 1) parts) (drop at parts) c.loop-part.now c.in_ok-t.field-0
    (parts_walk flat.code trip.site.now trip.packet.now trip.kind.now parts c.args.t) (drop_more parts at _ within) c.in_ok-t.ensures.walked c.in-None.is c.loop-part.invariant.walked

pub returns-in-None-clause-logged : goal.returns-in-None-clause-logged
returns-in-None-clause-logged c =
    let trip = c.args.trip.now in
    let flat = trip.flat.now in
    let parts = c.args.parts.now in
    let at = c.loop-part.part-index in
    let within : at < length parts = omega arith in
    log_parts_dropped flat.code trip.site.now trip.packet.now trip.kind.now _ (drop (at + 1) parts) (drop at parts) c.loop-part.now c.in_ok-t.field-0
    c.loop-part.log.items c.part_behind.new.log.items (c.args.log.now.items ++ parts_used flat.code trip.site.now trip.packet.now trip.kind.now parts c.args.t)
    (drop_more parts at _ within) c.in_ok-t.ensures.walked c.in_ok-t.ensures.logged c.in-None.is c.loop-part.invariant.logged

pub loop-part-preserved : goal.loop-part-preserved
loop-part-preserved c =
    let trip = c.args.trip.now in
    let flat = trip.flat.now in
    let parts = c.args.parts.now in
    let at = c.loop-part.part-index in
    let within : at < length parts = omega arith in
    record {
      walked = parts_on flat.code trip.site.now trip.packet.now trip.kind.now _ (drop (at + 1) parts) (drop at parts) c.loop-part.now c.in-Some.t c.in_ok-t.field-0
          (parts_walk flat.code trip.site.now trip.packet.now trip.kind.now parts c.args.t) (drop_more parts at _ within) c.in_ok-t.ensures.walked c.in-Some.is c.loop-part.invariant.walked;
      logged = log_parts_on flat.code trip.site.now trip.packet.now trip.kind.now _ (drop (at + 1) parts) (drop at parts) c.loop-part.now c.in-Some.t c.in_ok-t.field-0
          c.loop-part.log.items c.part_behind.new.log.items (c.args.log.now.items ++ parts_used flat.code trip.site.now trip.packet.now trip.kind.now parts c.args.t)
          (drop_more parts at _ within) c.in_ok-t.ensures.walked c.in_ok-t.ensures.logged c.in-Some.is c.loop-part.invariant.logged;
    }

pub returns-clause-walked : goal.returns-clause-walked
returns-clause-walked c =
    let trip = c.args.trip.now in
    let parts = c.args.parts.now in
    let at = c.loop-part.part-index in
    let past : length parts ≤ at = omega arith in
    ap (λ ps. parts_walk trip.flat.now.code trip.site.now trip.packet.now trip.kind.now ps c.loop-part.now) (sym (drop_all at parts past)) ∙ c.loop-part.invariant.walked

pub returns-clause-logged : goal.returns-clause-logged
returns-clause-logged c =
    let trip = c.args.trip.now in
    let parts = c.args.parts.now in
    let at = c.loop-part.part-index in
    let past : length parts ≤ at = omega arith in
    sym (append-nil c.loop-part.log.items)
    ∙ ap (λ ps. c.loop-part.log.items ++ parts_used trip.flat.now.code trip.site.now trip.packet.now trip.kind.now ps c.loop-part.now) (sym (drop_all at parts past))
    ∙ c.loop-part.invariant.logged
