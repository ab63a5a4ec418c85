use Rattle.std.proofs.Common.{ℕ, Bool, List}
use Rattle.std.proofs.lemmas.Result.{IfOk-weaker}
use Rattle.fws_ios_put_sources.specs.Picking.{IsPick}
use Rattle.fws_tree.specs.Plain.{Plain}
use Rattle.fws_ios_put_sources.proofs.Parts.{IsProjected}
use Rattle.fws_ios_put_sources.proofs.Picks.{pick_of}
use Rattle.fws_ios_put_sources.proofs.picking.picked.Goals as goal

pub returns-clause-picked : goal.returns-clause-picked
returns-clause-picked c =
    let all : List ℕ × Plain Bool = c.in_ok-all.all in
    let tree = c.args.crossing.now in
    let keys = c.args.addrs.now.keys in
    let P : List ℕ × Plain Bool → Type 0 = λ t. IsProjected all.0 65 all.1 t.1 in
    let Q : List ℕ × Plain Bool → Type 0 = λ t. IsPick tree.0 tree.1 keys c.args.place c.args.later t.1 in
    IfOk-weaker c.exists.result P Q
    (λ t h. pick_of tree.0 tree.1 keys c.args.place c.args.later all t.1 c.in_ok-all.ensures.tops c.in_ok-all.ensures.value h) c.exists.ensures.value
