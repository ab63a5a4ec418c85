-- What walks make of the points of a site, and their tables.
use Rattle.std.specs.Prelude.{◌≡◌, ℕ, Some, List}
use Rattle.fws_box.specs.Sides.{IsWithin}
use Rattle.fws_exec.specs.Classes.{kind_of}
use Rattle.fws_net.specs.declared.connection.Kind.{Kind}
use Rattle.fws_net.specs.declared.outcome.Outcome.{Outcome}
use Rattle.fws_net.specs.declared.packet.Packet.{Packet}
use Rattle.fws_net.specs.declared.packet.State.{State}
use Rattle.fws_net.specs.declared.packet.State.TheVariants.{Fresh, Est}
use Rattle.fws_net.specs.declared.site.Site.{Site}
use Rattle.fws_net.specs.Points.{tops_of, packet_of}
use Rattle.fws_tree.specs.declared.tables.Tables.{Tables}
use Rattle.fws_tree.specs.Plain.{value, IsReduced}

-- what becomes of each packet in each class
abbrev pub Walk : Type 0
Walk = Packet → Kind → Outcome

-- the numbers of the rules that apply to each packet in each class, in the order in which it comes to them
abbrev pub Uses : Type 0
Uses = Packet → Kind → List ℕ

-- what a walk makes of the packet of a point, as one of a state
abbrev pub walked_at : Walk → State → List ℕ → Outcome
walked_at walk state p = walk (packet_of p) (kind_of state p)

-- the tables of a walk: both trees have the tops of the site, are reduced, and have at each point what the walk makes of its packet
pub record AreTablesOf (site : Site) (walk : Walk) (tables : Tables) : Type 0 where
  pub fresh_tops : tables.fresh.0 ≡ tops_of site
  pub est_tops : tables.est.0 ≡ tops_of site
  pub fresh_reduced : IsReduced (tops_of site) tables.fresh.1
  pub est_reduced : IsReduced (tops_of site) tables.est.1
  pub fresh_walked : (p : List ℕ) → IsWithin (tops_of site) p → value tables.fresh.1 p ≡ Some (walked_at walk Fresh p)
  pub est_walked : (p : List ℕ) → IsWithin (tops_of site) p → value tables.est.1 p ≡ Some (walked_at walk Est p)
