use Rattle.std.proofs.Common.{◌≡◌, suc, ◌+◌, ◌<◌, ◌++◌, map, drop, length, arith, ap, sym, ◌∙◌}
use Rattle.std.proofs.lemmas.List.{at_drop_more}
use Rattle.fws_net.specs.Routes.{joined, longest, net_line, nets_from}
use Rattle.fws_net.proofs.Longest.{longest_more}
use Rattle.fws_net.proofs.routes.best_of_faces.Goals as goal

pub loop-face-preserved : goal.loop-face-preserved
loop-face-preserved c = record {
  so_far =
      let faces = c.args.faces.now in
      let i = c.loop-face.face-index in
      let face = c.face-item.result in
      let best = c.loop-face.best in
      let entry = c.loop-face.entry in
      let a = c.args.a in
      let later = nets_from (entry + 1) (drop (i + 1) faces) in
      let there : i < length faces = omega arith in
      let next : entry + 1 ≡ suc entry = omega arith in
      ap (λ o. joined o (longest later a)) (c.best_of_nets-best.ensures ∙ ap (λ own. joined best (longest (map (net_line entry) own) a)) c.as_slice.ensures)
      ∙ longest_more best (map (net_line entry) face.addrs) later a
      ∙ ap (λ n. joined best (longest (map (net_line entry) face.addrs ++ nets_from n (drop (i + 1) faces)) a)) next
      ∙ ap (λ f. joined best (longest (map (net_line entry) f.addrs ++ nets_from (suc entry) (drop (i + 1) faces)) a)) c.face-item.is
      ∙ sym (ap (λ o. joined best o) (at_drop_more (λ fs. longest (nets_from entry fs) a) faces i face there))
      ∙ c.loop-face.invariant.so_far;
  counted = omega arith;
}
