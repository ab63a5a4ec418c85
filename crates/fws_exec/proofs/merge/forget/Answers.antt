use Rattle.std.proofs.Common.{◌<◌, ◌&&◌, get_or, length, sym, ◌∙◌, ap, arith}
use Rattle.std.proofs.lemmas.Bool.{false≢true}
use Rattle.fws_exec.specs.Joined.{has_twin, is_joined}
use Rattle.fws_exec.proofs.Bounding.{set_away}
use Rattle.fws_exec.proofs.Listing.{among_item}
use Rattle.fws_exec.proofs.merge.forget.Goals as goal

pub loop-number-preserved : goal.loop-number-preserved
loop-number-preserved c =
    let lt : c.loop-number.number-index < length c.args.joined.now = omega arith in
    let number = get_or c.args.joined.now c.loop-number.number-index 0 in
    record {
      kept = λ n out. set_away c.loop-number.hulls.items number n c.none.result
          (λ here. false≢true (sym out ∙ ap (λ k. is_joined c.args.twins.now c.args.joined.now k) here ∙ ap (λ b. b && has_twin c.args.twins.now number) (among_item c.args.joined.now c.loop-number.number-index lt) ∙ sym c.has_twin.ensures ∙ c.if-not-has_twin.false))
          ∙ c.loop-number.invariant.kept n out;
    }
