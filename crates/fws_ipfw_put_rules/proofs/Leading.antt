-- What turns lead to.
use Rattle.std.proofs.Common.{◌≡◌, ◌⊎◌, ℕ, ◌≤◌, Bool, true, false, ◌||◌, Option, Some, None, List, [], ◌∷◌, ◌++◌, inl, inr, refl, sym, ◌∙◌, ap, subst, append_assoc}
use Rattle.std.proofs.lemmas.Bool.{false≢true, or_right}
use Rattle.std.proofs.lemmas.List.Folds.{list_any-append}
use Rattle.std.specs.List.{list_any}
use Rattle.std.specs.Prelude.{MatchOption, slice_index}
use Rattle.fws_iv.specs.declared.iv.Iv.{Iv}
use Rattle.fws_net.specs.declared.condition.Lit.{Lit}
use Rattle.fws_net.specs.declared.packet.Packet.{Packet}
use Rattle.fws_net.specs.declared.site.Site.{Site}
use Rattle.fws_net.specs.declared.view.View.{View}
use Rattle.fws_net.specs.Conditions.{lit_holds}
use Rattle.fws_net.specs.Points.{tops_of}
use Rattle.fws_tree.specs.declared.node.Kid.{Kid}
use Rattle.fws_tree.specs.declared.node.Node.{Node}
use Rattle.fws_tree.specs.Plain.{Plain}
use Rattle.fws_tree.specs.Shared.{subtree_of}
use Rattle.fws_tree_seen.specs.declared.field.PacketField.{PacketField}
use Rattle.fws_tree_seen.specs.declared.seen.Seen.{Seen}
use Rattle.fws_tree_seen.specs.Cuts.{kids_of, IsCutNode, PartValues}
use Rattle.fws_tree_seen.specs.Fields.{hits, suits, top_of}
use Rattle.fws_tree_seen.specs.Reached.{IsOpen, IsTopped, Reaches, ReachesKid}
use Rattle.fws_tree_seen.specs.Shown.{seen_field, value_of}
use Rattle.fws_tree_seen.specs.SightLaws.{Agrees, LeftSetsAreOpen, OpenKidsAreReached, SeenFieldsAgree, UnseenFieldsAreOpen}
use Rattle.fws_ipfw_put_rules.specs.declared.choice.Choice.{Choice}
use Rattle.fws_ipfw_put_rules.specs.declared.turn.Turn.{Turn}
use Rattle.fws_ipfw_put_rules.specs.Literals.{holds_or_none}
use Rattle.fws_ipfw_put_rules.specs.Pieces.{ArePieces}
use Rattle.fws_ipfw_put_rules.specs.Turns.{turns_for, last_turn, AreCutTurns, AreKidTurns, AreTurns, Leads}

-- some kid has the property
abbrev pub SomeKid : (Kid → Type 0) → List Kid → Type 0
SomeKid P [] = ⊥
SomeKid P (k ∷ ks) = P k ⊎ SomeKid P ks

-- among turns for literals one leads on, or none holds
lits_led : (seen : Seen) (tree : ℕ → Plain Choice) (v : View) (w : Choice) (node : ℕ) (lits : List Lit) (rest : List Turn) → Leads seen tree v (turns_for node lits ++ rest) w
    → ((list_any (lit_holds v) lits ≡ true) × Reaches seen v.packet (tree node) w) ⊎ ((list_any (lit_holds v) lits ≡ false) × Leads seen tree v rest w)
lits_led seen tree v w node [] rest h = inr (refl, h)
lits_led seen tree v w node (l ∷ lits) rest (inl a) = inl (ap (λ b. b || list_any (lit_holds v) lits) a.0, a.1)
lits_led seen tree v w node (l ∷ lits) rest (inr b) = elim (lits_led seen tree v w node lits rest b.1) [
  | inl c ↦ inl (or_right (lit_holds v l) (list_any (lit_holds v) lits) c.0, c.1)
  | inr d ↦ inr (ap (λ x. x || list_any (lit_holds v) lits) b.0 ∙ d.0, d.1)
]

-- among the turns of kids that of one which is hit leads on, or none is hit
pub kids_led : (Is : List Iv → List Lit → Type 0) (hit : List Iv → Bool) (seen : Seen) (tree : ℕ → Plain Choice) (v : View) (w : Choice)
    → ((set : List Iv) (lits : List Lit) → Is set lits → list_any (lit_holds v) lits ≡ hit set)
    → (kids : List Kid) (tests rest : List Turn) → AreKidTurns Is kids tests → Leads seen tree v (tests ++ rest) w
    → SomeKid (λ kid. (hit kid.set ≡ true) × Reaches seen v.packet (tree kid.node) w) kids ⊎ ((list_any (λ kid. hit kid.set) kids ≡ false) × Leads seen tree v rest w)
kids_led Is hit seen tree v w same [] tests rest made h = inr (refl, subst (λ l. Leads seen tree v (l ++ rest) w) made h)
kids_led Is hit seen tree v w same (k ∷ kids) tests rest made h =
    let lits = made.0 in
    let more = made.1 in
    let all : tests ++ rest ≡ turns_for k.node lits ++ (more ++ rest) = ap (λ l. l ++ rest) made.2 ∙ append_assoc (turns_for k.node lits) more rest in
    let is : list_any (lit_holds v) lits ≡ hit k.set = same k.set lits made.3 in
    elim (lits_led seen tree v w k.node lits (more ++ rest) (subst (λ l. Leads seen tree v l w) all h)) [
      | inl a ↦ inl (inl (sym is ∙ a.0, a.1))
      | inr b ↦ elim (kids_led Is hit seen tree v w same kids more rest made.4 b.1) [
        | inl c ↦ inl (inr c)
        | inr d ↦ inr (ap (λ x. x || list_any (λ kid. hit kid.set) kids) (sym is ∙ b.0) ∙ d.0, d.1)
      ]
    ]

-- the last turn leads to its node
pub last_led : (seen : Seen) (tree : ℕ → Plain Choice) (v : View) (w : Choice) (other : Kid) → Leads seen tree v (last_turn other) w → Reaches seen v.packet (tree other.node) w
last_led seen tree v w other (inl a) = a.1
last_led seen tree v w other (inr b) = absurd (false≢true (sym b.0))

-- some turn holds
pub whole : (AreTests : List Kid → List Turn → Type 0) (kids : List Kid) (turns : List Turn) → AreTurns AreTests kids turns → (v : View) → list_any (λ turn. holds_or_none v turn.lit) turns ≡ true
whole AreTests kids turns made v =
    ap (λ l. list_any (λ turn. holds_or_none v turn.lit) l) made.all ∙ list_any-append (λ turn. holds_or_none v turn.lit) made.tests (last_turn made.other)
    ∙ or_right (list_any (λ turn. holds_or_none v turn.lit) made.tests) true refl

-- a kid that is hit and leads on is reached
kid_reached : (seen : Seen) (q : Packet) (f : ℕ) (field : PacketField) (tree : ℕ → Plain Choice) (w : Choice) → ((set : List Iv) → hits field set q ≡ true → IsOpen seen q f set)
    → (kids : List Kid) → SomeKid (λ kid. (hits field kid.set q ≡ true) × Reaches seen q (tree kid.node) w) kids → ReachesKid seen q f (kids_of tree kids) w
kid_reached seen q f field tree w opens [] h = absurd h
kid_reached seen q f field tree w opens (k ∷ kids) (inl a) = inl (opens k.set a.0, a.1)
kid_reached seen q f field tree w opens (k ∷ kids) (inr b) = inr (kid_reached seen q f field tree w opens kids b)

-- laws of what rules see
pub record Laws : Type 0 where
  pub agree : SeenFieldsAgree
  pub unseen : UnseenFieldsAreOpen
  pub left : LeftSetsAreOpen
  pub reach : OpenKidsAreReached Choice

-- the turns of a cut lead to what is reached in it
cut_tests : (laws : Laws) (site : Site) (tops : List ℕ) (seen : Seen) (f : ℕ) (tree : ℕ → Plain Choice) (front back : List Kid) (other : Kid) (tests : List Turn) (v : View) (w : Choice)
    → tops ≡ tops_of site → PartValues (slice_index tops f) (front ++ other ∷ back) → IsTopped tops seen v.packet → Leads seen tree v (tests ++ last_turn other) w
    → (o : Option PacketField) → seen_field seen f ≡ o → MatchOption o (tests ≡ []) (λ field. AreKidTurns (ArePieces field) (front ++ back) tests)
    → ReachesKid seen v.packet f (kids_of tree (front ++ other ∷ back)) w
cut_tests laws site tops seen f tree front back other tests v w is parted topped h None e sorted =
    let there : Leads seen tree v (last_turn other) w = subst (λ l. Leads seen tree v (l ++ last_turn other) w) sorted h in
    laws.reach seen v.packet f w tree front back other (inr (laws.unseen seen f v.packet other.set e, last_led seen tree v w other there))
cut_tests laws site tops seen f tree front back other tests v w is parted topped h (Some field) e sorted =
    let q = v.packet in
    let agrees : Agrees seen f field = laws.agree seen f field e in
    let top : slice_index tops f ≡ top_of field = ap (λ l. slice_index l f) is ∙ agrees.top site in
    let below : suits field q.proto ≡ true → value_of field q ≤ top_of field = λ s. subst (λ n. value_of field q ≤ n) top (topped f (value_of field q) (agrees.protocols q.proto ∙ s) (agrees.value q)) in
    let pieces : (set : List Iv) (lits : List Lit) → ArePieces field set lits → list_any (lit_holds v) lits ≡ hits field set q = λ set lits made. made.hit v below in
    elim (kids_led (ArePieces field) (λ set. hits field set q) seen tree v w pieces (front ++ back) tests (last_turn other) sorted h) [
      | inl a ↦ laws.reach seen q f w tree front back other (inl (kid_reached seen q f field tree w (agrees.open_hit q) (front ++ back) a))
      | inr b ↦ laws.reach seen q f w tree front back other (inr (
        laws.left seen tops f field q front back other e top topped (subst (λ n. PartValues n (front ++ other ∷ back)) top parted) b.0,
        last_led seen tree v w other b.1,
      ))
    ]

pub cut_led : (laws : Laws) (site : Site) (tops : List ℕ) (seen : Seen) (leaves : List Choice) (nodes : List Node) (at f : ℕ) (kids : List Kid) (turns : List Turn)
    → tops ≡ tops_of site → IsCutNode tops leaves nodes at f kids → AreCutTurns seen f kids turns → (v : View) (w : Choice) → IsTopped tops seen v.packet
    → Leads seen (subtree_of leaves nodes) v turns w → Reaches seen v.packet (subtree_of leaves nodes at) w
cut_led laws site tops seen leaves nodes at f kids turns is node made v w topped h =
    let tree : ℕ → Plain Choice = λ n. subtree_of leaves nodes n in
    let reached = cut_tests laws site tops seen f tree made.front made.back made.other made.tests v w is
    (subst (λ l. PartValues (slice_index tops f) l) made.split node.parted) topped
    (subst (λ l. Leads seen tree v l w) made.all h) (seen_field seen f) refl made.sorted in
    subst (λ u. Reaches seen v.packet u w) (sym node.tree) (subst (λ l. ReachesKid seen v.packet f (kids_of tree l) w) (sym made.split) reached)
