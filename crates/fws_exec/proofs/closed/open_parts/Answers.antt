use Rattle.std.proofs.Common.{◌≡◌, true, ◌&&◌, ◌||◌, refl, sym, ◌∙◌}
use Rattle.std.proofs.lemmas.Bool.{and_from, false≢true, or_left, or_right}
use Rattle.fws_exec.specs.Closed.{is_closed, is_established}
use Rattle.fws_exec.proofs.Closing.{along_means, closed_is, way_is}
use Rattle.fws_exec.proofs.closed.open_parts.Goals.{then-is_closed, else-is_closed+then-delivered, else-is_closed+else-delivered}
use Rattle.fws_exec.proofs.closed.open_parts.Goals as goal

pub returns-clause-means : goal.returns-clause-means
returns-clause-means c =
    let code = c.args.code.now in
    let f = c.args.f.now in
    let s = c.args.state in
    let told = is_closed (is_established s) code in
    let arrive : c.is_closed.result ≡ told f.arrive = closed_is code s c.is_closed.result c.is_established-established.result c.as_slice-arrive.result.now f.arrive c.is_closed.ensures c.is_established-established.ensures c.as_slice-arrive.ensures in
    let deliver : c.is_closed-delivered.result ≡ told f.deliver = closed_is code s c.is_closed-delivered.result c.is_established-established.result c.as_slice-deliver.result.now f.deliver c.is_closed-delivered.ensures c.is_established-established.ensures c.as_slice-deliver.ensures in
    let forward : c.is_closed-forwarded.result ≡ told f.forward = closed_is code s c.is_closed-forwarded.result c.is_established-established.result c.as_slice-forward.result.now f.forward c.is_closed-forwarded.ensures c.is_established-established.ensures c.as_slice-forward.ensures in
    let send : c.is_closed-sent.result ≡ told f.send = closed_is code s c.is_closed-sent.result c.is_established-established.result c.as_slice-send.result.now f.send c.is_closed-sent.ensures c.is_established-established.ensures c.as_slice-send.ensures in
    let tells : c.if-is_closed.arrived ≡ true → (told f.arrive || (told f.deliver && told f.forward)) ≡ true = λ h. elim c.if-is_closed.branch [
      | then-is_closed w ↦ or_left (told f.arrive) (told f.deliver && told f.forward) (sym arrive ∙ w.if-is_closed.true)
      | else-is_closed+then-delivered w ↦ or_right (told f.arrive) (told f.deliver && told f.forward) (and_from (told f.deliver) (told f.forward) (sym deliver ∙ w.if-delivered.true) (sym forward ∙ sym w.arrived-is ∙ h))
      | else-is_closed+else-delivered w ↦ absurd (false≢true (sym w.if-delivered.false ∙ sym w.arrived-is ∙ h))
    ] in
    along_means code f s (record { arrive = c.way_along.result; deliver = c.way_along-2.result; forward = c.way_along-3.result; send = c.way_along-4.result }) (record {
      arrived = c.if-is_closed.arrived;
      arrive = way_is c.if-is_closed.arrived c.if-is_closed.arrived c.way_along.result.now c.as_slice-arrive.result.now f.arrive c.way_along.ensures refl c.as_slice-arrive.ensures;
      tells = tells;
      deliver = way_is c.is_closed-delivered.result (told f.deliver) c.way_along-2.result.now c.as_slice-deliver.result.now f.deliver c.way_along-2.ensures deliver c.as_slice-deliver.ensures;
      forward = way_is c.is_closed-forwarded.result (told f.forward) c.way_along-3.result.now c.as_slice-forward.result.now f.forward c.way_along-3.ensures forward c.as_slice-forward.ensures;
      send = way_is c.is_closed-sent.result (told f.send) c.way_along-4.result.now c.as_slice-send.result.now f.send c.way_along-4.ensures send c.as_slice-send.ensures;
    })
