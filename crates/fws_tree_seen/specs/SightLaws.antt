-- Laws of what rules see.
use Rattle.std.specs.Prelude.{◌≡◌, ◌⊎◌, ℕ, true, false, Some, None, List, ◌∷◌, ◌++◌, length, slice_index}
use Rattle.std.specs.List.{list_any}
use Rattle.fws_box.specs.Sides.{IsWithin}
use Rattle.fws_iv.specs.declared.iv.Iv.{Iv}
use Rattle.fws_net.specs.declared.packet.Packet.{Packet}
use Rattle.fws_net.specs.declared.site.Site.{Site}
use Rattle.fws_net.specs.Points.{tops_of}
use Rattle.fws_tree.specs.declared.node.Kid.{Kid}
use Rattle.fws_tree.specs.Plain.{Plain, branch, value, IsReduced}
use Rattle.fws_tree_seen.specs.declared.field.PacketField.{PacketField}
use Rattle.fws_tree_seen.specs.declared.seen.Seen.{Seen}
use Rattle.fws_tree_seen.specs.Cuts.{kids_of, PartValues}
use Rattle.fws_tree_seen.specs.Fields.{hits, suits, top_of}
use Rattle.fws_tree_seen.specs.Reached.{IsOpen, IsTopped, Reaches, ReachesKid}
use Rattle.fws_tree_seen.specs.Shown.{has_field, seen_field, shown, value_of, IsSeenAs, IsTold}

-- what a packet reaches in the tree that is left at its entry is the value at each point with that entry as which it is seen,
-- where rules can tell the values
abbrev pub ReachedValuesAreTold : Type 0 → Type 0
ReachedValuesAreTold L = (seen : Seen) (tops : List ℕ) (t : Plain L) (q : Packet) (x : List ℕ) (w : L) → IsReduced tops t → length tops ≡ 12
    → IsTold seen tops t → IsWithin tops x → IsSeenAs seen q x → Reaches seen q (branch 0 t (slice_index x 0)) w → value t x ≡ Some w

-- what is seen as a point within the tops lies up to them
abbrev pub SeenPointsAreTopped : Type 0
SeenPointsAreTopped = (seen : Seen) (tops : List ℕ) (q : Packet) (x : List ℕ) → IsWithin tops x → IsSeenAs seen q x → IsTopped tops seen q

-- a field of a point agrees with the packet's field that is seen in its place
pub record Agrees (seen : Seen) (f : ℕ) (field : PacketField) : Type 0 where
  -- the same protocols have them
  pub protocols : (proto : ℕ) → has_field proto f ≡ suits field proto
  -- their greatest values are equal
  pub top : (site : Site) → slice_index (tops_of site) f ≡ top_of field
  -- what is seen is the value of the packet's field
  pub value : (q : Packet) → shown seen f q ≡ Some (value_of field q)
  -- a set is open just where it is hit, if the packet has the field
  pub open_hit : (q : Packet) (set : List Iv) → hits field set q ≡ true → IsOpen seen q f set
  pub hit_open : (q : Packet) (set : List Iv) → suits field q.proto ≡ true → IsOpen seen q f set → hits field set q ≡ true

-- each field agrees with what is seen in its place
abbrev pub SeenFieldsAgree : Type 0
SeenFieldsAgree = (seen : Seen) (f : ℕ) (field : PacketField) → seen_field seen f ≡ Some field → Agrees seen f field

-- where nothing is seen in place of a field, each of its sets is open
abbrev pub UnseenFieldsAreOpen : Type 0
UnseenFieldsAreOpen = (seen : Seen) (f : ℕ) (q : Packet) (set : List Iv) → seen_field seen f ≡ None → IsOpen seen q f set

-- among sets that part the values of a field, the one that is left is open to a packet that hits none of the others
abbrev pub LeftSetsAreOpen : Type 0
LeftSetsAreOpen = (seen : Seen) (tops : List ℕ) (f : ℕ) (field : PacketField) (q : Packet) (front back : List Kid) (other : Kid)
    → seen_field seen f ≡ Some field → slice_index tops f ≡ top_of field → IsTopped tops seen q → PartValues (top_of field) (front ++ other ∷ back)
    → list_any (λ kid. hits field kid.set q) (front ++ back) ≡ false → IsOpen seen q f other.set

-- what is reached by an open kid, or by the others, is reached by all
abbrev pub OpenKidsAreReached : Type 0 → Type 0
OpenKidsAreReached L = (seen : Seen) (q : Packet) (f : ℕ) (w : L) (tree : ℕ → Plain L) (front back : List Kid) (other : Kid)
    → ReachesKid seen q f (kids_of tree (front ++ back)) w ⊎ (IsOpen seen q f other.set × Reaches seen q (tree other.node) w)
    → ReachesKid seen q f (kids_of tree (front ++ other ∷ back)) w

-- each value of the second tree is the image of the first one's
abbrev pub HasImages : {L M : Type 0} → List ℕ → (L → M) → Plain L → Plain M → Type 0
HasImages {L} tops gives t u = (x : List ℕ) → IsWithin tops x → (a : L) × (value t x ≡ Some a) × (value u x ≡ Some (gives a))

-- where rules can tell the values of a tree, they can tell their images
abbrev pub RelabelledTreesAreTold : Type 0 → Type 0 → Type 0
RelabelledTreesAreTold L M = (seen : Seen) (tops : List ℕ) (gives : L → M) (t : Plain L) (u : Plain M) → HasImages tops gives t u → IsTold seen tops t → IsTold seen tops u
