use Rattle.std.proofs.Common.{◌≡◌, ◌+◌, ◌<◌, [], ◌∷◌, None, length, arith, ap, ◌∙◌}
use Rattle.fws_net.specs.declared.condition.Test.TheVariants.{Xmit}
use Rattle.fws_net.specs.Ends.{host_end}
use Rattle.fws_net.specs.Faces.{face_addr}
use Rattle.fws_ifcl.specs.declared.diagram.Act.TheVariants.{Src}
use Rattle.fws_rules.specs.Literals.{one, positive}
use Rattle.fws_ifcl_rules.specs.Rules.{ruled}
use Rattle.fws_ipt_ifcl.proofs.Widths.{entry_built}
use Rattle.fws_ipt_ifcl.proofs.blocks.masquerading.Goals as goal

pub loop-entry-preserved : goal.loop-entry-preserved
loop-entry-preserved c =
    let e = c.loop-entry.entry in
    let site = c.args.site.now in
    let within : e < length site.faces + 2 = omega (arith, c.loop-entry-test.true, c.last_entry-entry-end.ensures) in
    let is : c.in_ok-ruled_by.field-0 ≡ ruled (positive (Xmit (one e e)) ∷ []) (Src (host_end (face_addr site e) None)) =
    c.in_ok-ruled_by.ensures
    ∙ ap (λ lit. ruled (lit ∷ []) (Src c.host-end.result)) (c.positive-own.ensures ∙ ap (λ set. positive (Xmit set)) c.in_ok-one_entry.ensures)
    ∙ ap (λ end. ruled (positive (Xmit (one e e)) ∷ []) (Src end)) (c.host-end.ensures ∙ ap (λ a. host_end a None) c.face_addr.ensures) in
    record {
      entries = omega (arith, within);
      built = entry_built Xmit (λ entry. Src (host_end (face_addr site entry) None)) e (length site.faces + 2) c.loop-entry.rules.items _ c.in_ok-ruled_by.field-0 _
          within c.in_ok-push.ensures.items is c.loop-entry.invariant.built;
    }
