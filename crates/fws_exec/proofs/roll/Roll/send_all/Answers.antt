use Rattle.std.proofs.Common.{◌<◌, get_or, length, sym, ◌∙◌, subst, arith}
use Rattle.std.proofs.lemmas.List.{length-set}
use Rattle.fws_exec.proofs.Listing.{among_item}
use Rattle.fws_exec.proofs.Sent.{sent_more}
use Rattle.fws_exec.proofs.roll.Roll.send_all.Goals as goal

pub index_mut-requires : goal.index_mut-requires
index_mut-requires c =
    let lt : c.loop-number.number-index < length c.args.numbers.now = omega arith in
    let within : get_or c.args.numbers.now c.loop-number.number-index 0 < length c.loop-number.self.classes.items =
    subst (λ n. get_or c.args.numbers.now c.loop-number.number-index 0 < n) (sym c.loop-number.invariant.count) (c.requires (get_or c.args.numbers.now c.loop-number.number-index 0) (among_item c.args.numbers.now c.loop-number.number-index lt)) in
    let ok = c.loop-number.self.classes.ok in
    omega arith

pub loop-number-preserved : goal.loop-number-preserved
loop-number-preserved c =
    let lt : c.loop-number.number-index < length c.args.numbers.now = omega arith in
    let within : get_or c.args.numbers.now c.loop-number.number-index 0 < length c.loop-number.self.classes.items =
    subst (λ n. get_or c.args.numbers.now c.loop-number.number-index 0 < n) (sym c.loop-number.invariant.count) (c.requires (get_or c.args.numbers.now c.loop-number.number-index 0) (among_item c.args.numbers.now c.loop-number.number-index lt)) in
    record {
      sent = sent_more c.args.spot c.args.numbers.now c.loop-number.number-index c.args.self.now.classes.items c.loop-number.self.classes.items c.index_mut.result.now _ lt within c.loop-number.invariant.sent c.index_mut.ensures.value;
      count = length-set c.loop-number.self.classes.items (get_or c.args.numbers.now c.loop-number.number-index 0) _ ∙ c.loop-number.invariant.count;
    }
