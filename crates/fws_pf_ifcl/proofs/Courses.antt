-- A packet's course through the rules of a pass.
use Rattle.std.proofs.Common.{ℕ, Bool}
use Rattle.fws_net.specs.declared.connection.Kind.{Kind}
use Rattle.fws_net.specs.declared.packet.Packet.{Packet}
use Rattle.fws_net.specs.declared.site.Site.{Site}
use Rattle.fws_net.specs.declared.transit.Transit.{Transit}
use Rattle.fws_ifcl.specs.declared.step.ChainEnd.{ChainEnd}
use Rattle.fws_ifcl_rules.specs.Places.{WalksGoByPlaces, Walk, walk_of}
use Rattle.fws_pf.specs.declared.config.PfConfig.{PfConfig}
use Rattle.fws_pf_ifcl.specs.Blocks.{Order}
use Rattle.fws_pf_ifcl.specs.Diagram.{pass_rules, pass_stage}

abbrev pub Course : Kind → Bool → Type 0
Course k outward = Walk k (pass_stage outward)

-- through the rules of a diagram, with those of filter rules in their order or as they decide first
abbrev pub course : WalksGoByPlaces → (ℕ → Transit → ChainEnd) → (site : Site) → Packet → (k : Kind) → Order → (outward : Bool) → PfConfig → Course k outward
course law enter site p k order outward c = walk_of law enter site p k (pass_stage outward) (pass_rules order outward c)
