use Rattle.std.proofs.Common.{◌≡◌, ◌+◌, ◌-◌, ◌≤◌, ◌++◌, None, length}
use Rattle.fws_net.specs.declared.condition.Test.TheVariants.{Xmit}
use Rattle.fws_net.specs.Ends.{host_end}
use Rattle.fws_net.specs.Faces.{face_addr}
use Rattle.fws_ifcl.specs.declared.diagram.Act.TheVariants.{Src}
use Rattle.fws_ipt_ifcl.specs.Blocks.{by_entry, masquerading}
use Rattle.fws_ipt_ifcl.proofs.blocks.masquerading.Given as goal

abbrev pub invariant-loop-entry : goal.invariant-loop-entry
invariant-loop-entry l = record {
  entries : l.entry ≤ length l.site.faces + 2;
  built : l.rules.items ++ by_entry Xmit (λ entry. Src (host_end (face_addr l.site entry) None)) l.entry ((length l.site.faces + 2) - l.entry) ≡ masquerading l.site;
}
