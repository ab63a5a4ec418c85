-- The laws of what rules see that chains rest on.
use Rattle.std.proofs.Common.{◌≡◌, ℕ, true, Some, List, nat_eq, refl, subst}
use Rattle.std.proofs.lemmas.Bool.{eqb-true}
use Rattle.fws_iv.specs.declared.iv.Iv.{Iv}
use Rattle.fws_iv.specs.Ivs.{has}
use Rattle.fws_net.specs.declared.packet.Packet.{Packet}
use Rattle.fws_tree_seen.specs.declared.field.PacketField.TheVariants.{Proto}
use Rattle.fws_tree_seen.specs.declared.seen.Seen.TheVariants.{Entered, Routed}
use Rattle.fws_tree_seen.specs.declared.seen.Seen.{Seen}
use Rattle.fws_tree_seen.specs.NodeLaws.{CutNodesPartValues, LeafNodesAreLeaves}
use Rattle.fws_tree_seen.specs.Reached.{IsOpen}
use Rattle.fws_tree_seen.specs.Shown.{seen_field}
use Rattle.fws_tree_seen.specs.SightLaws.{LeftSetsAreOpen, OpenKidsAreReached, ReachedValuesAreTold, SeenFieldsAgree, SeenPointsAreTopped, UnseenFieldsAreOpen}
use Rattle.fws_ipt_put_chains.specs.declared.verdict.Verdict.{Verdict}

-- what the chain of one node rests on
pub record Sight : Type 0 where
  pub agree : SeenFieldsAgree
  pub unseen : UnseenFieldsAreOpen
  pub left : LeftSetsAreOpen
  pub reached : OpenKidsAreReached Verdict
  pub leaves : LeafNodesAreLeaves Verdict
  pub cuts : CutNodesPartValues Verdict

-- what a branch rests on
pub record PointSight : Type 0 where
  pub told : ReachedValuesAreTold Verdict
  pub topped : SeenPointsAreTopped

-- what the branches of a tree rest on
pub record WholeSight : Type 0 where
  pub points : PointSight
  pub leaves : LeafNodesAreLeaves Verdict
  pub cuts : CutNodesPartValues Verdict

-- the protocol is seen
proto_seen : (seen : Seen) → seen_field seen 1 ≡ Some Proto
proto_seen Entered = refl
proto_seen Routed = refl

-- a set that is open has the protocol, where that is cut
pub open_proto : SeenFieldsAgree → (seen : Seen) (f : ℕ) (q : Packet) (set : List Iv) → IsOpen seen q f set → nat_eq f 1 ≡ true → has set q.proto ≡ true
open_proto agree seen f q set h e =
    (subst (λ k. IsOpen seen q k set) (eqb-true f 1 e) h) q.proto refl ((agree seen 1 Proto (proto_seen seen)).value q)
