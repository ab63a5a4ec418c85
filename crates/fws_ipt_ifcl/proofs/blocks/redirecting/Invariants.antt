use Rattle.std.proofs.Common.{◌≡◌, ◌+◌, ◌-◌, ◌≤◌, ◌++◌, length}
use Rattle.fws_net.specs.declared.condition.Test.TheVariants.{Recv}
use Rattle.fws_net.specs.Ends.{host_end}
use Rattle.fws_net.specs.Faces.{face_addr}
use Rattle.fws_ifcl.specs.declared.diagram.Act.TheVariants.{Dst}
use Rattle.fws_ipt_ifcl.specs.Blocks.{by_entry}
use Rattle.fws_ipt_ifcl.proofs.blocks.redirecting.Given as goal

abbrev pub invariant-loop-entry : goal.invariant-loop-entry
invariant-loop-entry l = record {
  entries : l.entry ≤ length l.site.faces + 2;
  built : l.rules.items ++ by_entry Recv (λ entry. Dst (host_end (face_addr l.site entry) l.port)) l.entry ((length l.site.faces + 2) - l.entry) ≡ by_entry Recv (λ entry. Dst (host_end (face_addr l.site entry) l.port)) 1 (length l.site.faces + 1);
}
