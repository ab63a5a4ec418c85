-- A new packet's course through the rules of a pass.
use Rattle.std.proofs.Common.{ℕ, Bool, List}
use Rattle.fws_net.specs.declared.connection.Kind.{Kind}
use Rattle.fws_net.specs.declared.packet.Packet.{Packet}
use Rattle.fws_net.specs.declared.site.Site.{Site}
use Rattle.fws_net.specs.declared.transit.Transit.{Transit}
use Rattle.fws_ifcl.specs.declared.step.ChainEnd.{ChainEnd}
use Rattle.fws_ifcl_rules.specs.Places.{WalksGoByPlaces, Walk, walk_of}
use Rattle.fws_pfo.specs.declared.config.PfoConfig.{PfoConfig}
use Rattle.fws_pfo_ifcl.specs.declared.ruling.Ruling.{Ruling}
use Rattle.fws_pfo_ifcl.specs.Diagram.{pass_rules, pass_stage}

abbrev pub Course : Kind → Bool → Type 0
Course k outward = Walk k (pass_stage outward)

-- through the rules of a configuration's diagram, with these rulings for the tails
abbrev pub course : WalksGoByPlaces → (ℕ → Transit → ChainEnd) → (site : Site) → Packet → (k : Kind) (tails : Bool → List Ruling) (outward : Bool) → PfoConfig → Course k outward
course law enter site p k tails outward c = walk_of law enter site p k (pass_stage outward) (pass_rules tails outward c)
