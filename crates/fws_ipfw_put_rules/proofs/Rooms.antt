-- Places that are free for the literals of later cuts.
use Rattle.std.proofs.Common.{◌≡◌, ℕ, ◌<◌, Bool, true, false, ◌||◌, cond, Option, Some, None, List, [], ◌∷◌, ◌++◌, slice_get, inl, inr, refl, sym, ◌∙◌, ap, subst, arith}
use Rattle.std.proofs.lemmas.Bool.{and_parts, cases_Bool, cond_both, eqb-true, false≢true}
use Rattle.std.proofs.lemmas.List.Elements.{All-from_recursion, recursion_from_All}
use Rattle.std.proofs.lemmas.Option.{none-some, same_Some, slice_get-get_or}
use Rattle.std.specs.List.{list_all, AllByRecursion}
use Rattle.std.specs.Option.{option_map_or}
use Rattle.std.specs.Prelude.{nat_eq, slice_index_or, All, MatchOption}
use Rattle.fws_iv.specs.declared.iv.Iv.{Iv}
use Rattle.fws_net.specs.declared.condition.Lit.{Lit}
use Rattle.fws_net.specs.declared.site.Site.{Site}
use Rattle.fws_ipfw_print.specs.Printable.{is_printed_cond, is_printed_literal, place_of}
use Rattle.fws_tree.specs.declared.node.Kid.{Kid}
use Rattle.fws_tree.specs.declared.node.Node.{Node}
use Rattle.fws_tree.specs.declared.node.Node.TheVariants.{Cut}
use Rattle.fws_tree_seen.specs.declared.field.PacketField.{PacketField}
use Rattle.fws_tree_seen.specs.declared.field.PacketField.TheVariants.{Proto, Dst, Dport, Src, Sport, Flags, Icmp}
use Rattle.fws_tree_seen.specs.declared.seen.Seen.{Seen}
use Rattle.fws_tree_seen.specs.declared.seen.Seen.TheVariants.{Entered, Routed}
use Rattle.fws_tree_seen.specs.Cuts.{IsCutNode}
use Rattle.fws_tree_seen.specs.Shown.{field_of, seen_field}
use Rattle.fws_ipfw_put_rules.specs.declared.choice.Choice.{Choice}
use Rattle.fws_ipfw_put_rules.specs.declared.turn.Turn.{Turn}
use Rattle.fws_ipfw_put_rules.specs.Blocks.{IsGoodCond}
use Rattle.fws_ipfw_put_rules.specs.Literals.{direction, has_place, inserted, is_printed_at, with_lit}
use Rattle.fws_ipfw_put_rules.specs.Pieces.{place_at, ArePieces}
use Rattle.fws_ipfw_put_rules.specs.Turns.{turns_for, last_turn, AreCutTurns, AreKidTurns}
use Rattle.fws_ipfw_put_rules.proofs.Placing.{inserted_place, inserted_printed}

-- ---- a place is that of one field of a point

at_number : (P : ℕ → Option PacketField → Type 0) (n f : ℕ) (x y : Option PacketField) → P n x → P f y → P f (cond (nat_eq f n) x y)
at_number P n f x y a b = cond_both (nat_eq f n) x y (P f) (λ e. subst (λ k. P k x) (sym (eqb-true f n e)) a) (λ e. b)

-- what holds of each field by its number
field_cases : (P : ℕ → Option PacketField → Type 0) → P 1 (Some Proto) → P 2 (Some Dst) → P 3 (Some Dport) → P 4 (Some Src) → P 5 (Some Sport)
    → P 6 (Some Flags) → P 7 (Some Icmp) → ((f : ℕ) → P f None) → (f : ℕ) → P f (field_of f)
field_cases P p1 p2 p3 p4 p5 p6 p7 other f =
    at_number P 1 f (Some Proto) _ p1 (at_number P 2 f (Some Dst) _ p2 (at_number P 3 f (Some Dport) _ p3 (at_number P 4 f (Some Src) _ p4
    (at_number P 5 f (Some Sport) _ p5 (at_number P 6 f (Some Flags) _ p6 (at_number P 7 f (Some Icmp) None p7 (other f)))))))

entered_by : (Q : ℕ → PacketField → Type 0) → Q 1 Proto → Q 2 Dst → Q 3 Dport → Q 4 Src → Q 5 Sport → Q 6 Flags → Q 7 Icmp
    → (f : ℕ) (field : PacketField) → field_of f ≡ Some field → Q f field
entered_by Q q1 q2 q3 q4 q5 q6 q7 f field e =
    field_cases (λ k o. o ≡ Some field → Q k field)
    (λ s. subst (Q 1) (same_Some Proto field s) q1) (λ s. subst (Q 2) (same_Some Dst field s) q2) (λ s. subst (Q 3) (same_Some Dport field s) q3)
    (λ s. subst (Q 4) (same_Some Src field s) q4) (λ s. subst (Q 5) (same_Some Sport field s) q5) (λ s. subst (Q 6) (same_Some Flags field s) q6)
    (λ s. subst (Q 7) (same_Some Icmp field s) q7) (λ k s. absurd (none-some field s)) f e

-- the number of the field of a point in whose place a field of the packet is seen
abbrev number_at : Seen → PacketField → ℕ
number_at seen Proto = 1
number_at Entered Dst = 2
number_at Entered Dport = 3
number_at seen Src = 4
number_at seen Sport = 5
number_at seen Flags = 6
number_at seen Icmp = 7
number_at Routed Dst = 8
number_at Routed Dport = 9

number_is : (seen : Seen) (f : ℕ) (field : PacketField) → seen_field seen f ≡ Some field → number_at seen field ≡ f
number_is Entered f field e = entered_by (λ k g. number_at Entered g ≡ k) refl refl refl refl refl refl refl f field e
number_is Routed f field e =
    cond_both (nat_eq f 2 || nat_eq f 3) 0 (cond (nat_eq f 8) 2 (cond (nat_eq f 9) 3 f)) (λ n. field_of n ≡ Some field → number_at Routed field ≡ f)
    (λ y s. absurd (none-some field s))
    (λ z. cond_both (nat_eq f 8) 2 (cond (nat_eq f 9) 3 f) (λ n. field_of n ≡ Some field → number_at Routed field ≡ f)
    (λ y s. ap (number_at Routed) (sym (same_Some Dst field s)) ∙ sym (eqb-true f 8 y))
    (λ u. cond_both (nat_eq f 9) 3 f (λ n. field_of n ≡ Some field → number_at Routed field ≡ f)
    (λ y s. ap (number_at Routed) (sym (same_Some Dport field s)) ∙ sym (eqb-true f 9 y))
    (λ v s. entered_by (λ k g. (nat_eq k 2 || nat_eq k 3) ≡ false → number_at Routed g ≡ k) (λ a. refl) (λ a. absurd (false≢true (sym a))) (λ a. absurd (false≢true (sym a)))
    (λ a. refl) (λ a. refl) (λ a. refl) (λ a. refl) f field s z))) e

-- the field whose tests have a place
abbrev field_at : ℕ → PacketField
field_at n =
    cond (nat_eq n 0) Proto (cond (nat_eq n 1) Src (cond (nat_eq n 2) Dst (cond (nat_eq n 5) Sport (cond (nat_eq n 6) Dport (cond (nat_eq n 7) Flags Icmp)))))

field_is : (field : PacketField) → field_at (place_at field) ≡ field
field_is Proto = refl
field_is Dst = refl
field_is Dport = refl
field_is Src = refl
field_is Sport = refl
field_is Flags = refl
field_is Icmp = refl

-- different fields of a point have different places
places_differ : (seen : Seen) (f g : ℕ) (a b : PacketField) → seen_field seen f ≡ Some a → seen_field seen g ≡ Some b → f < g → nat_eq (place_at a) (place_at b) ≡ false
places_differ seen f g a b d e lt = elim (cases_Bool (nat_eq (place_at a) (place_at b))) [
  | inl y ↦ (let same : a ≡ b = sym (field_is a) ∙ ap field_at (eqb-true (place_at a) (place_at b) y) ∙ field_is b in
      let n : f ≡ g = sym (number_is seen f a d) ∙ ap (number_at seen) same ∙ number_is seen g b e in absurd (omega (arith, lt, n)))
  | inr n ↦ n
]

-- ---- the turns of a cut

-- a kid stands before the node, and cuts later fields alone
pub record IsLater (nodes : List Node) (at f : ℕ) (kid : Kid) : Type 0 where
  pub before : kid.node < at
  pub rises : (g : ℕ) (others : List Kid) → slice_get nodes kid.node ≡ Some (Cut g others) → f < g

-- a turn to a node before this one, for which there is a good condition
pub record IsGoodTurn (site : Site) (seen : Seen) (nodes : List Node) (at : ℕ) (conds : List Lit) (turn : Turn) : Type 0 where
  pub before : turn.node < at
  pub good : IsGoodCond site seen nodes turn.node (with_lit turn.lit conds)

good_lit : (site : Site) (seen : Seen) (nodes : List Node) (at f : ℕ) (field : PacketField) (kids : List Kid) (conds : List Lit) → slice_get nodes at ≡ Some (Cut f kids) → seen_field seen f ≡ Some field
    → IsGoodCond site seen nodes at conds → (kid : Kid) → IsLater nodes at f kid → (lit : Lit) → is_printed_at site (place_at field) lit ≡ true → IsGoodCond site seen nodes kid.node (inserted lit conds)
good_lit site seen nodes at f field kids conds there is good kid later lit printed = record {
  printed = inserted_printed site (place_at field) lit conds printed (good.room f kids there f field (omega arith) is) good.printed;
  room = λ g others cut h other le shown.
      let rises = later.rises g others cut in
      let own = eqb-true (place_of lit.test) (place_at field) (and_parts (nat_eq (place_of lit.test) (place_at field)) (is_printed_literal site lit) printed).0 in
      inserted_place (place_at other) lit conds
      ∙ ap (λ b. b || has_place (place_at other) conds) (ap (λ n. nat_eq n (place_at other)) own ∙ places_differ seen f h field other is shown (omega (arith, rises, le)))
      ∙ good.room f kids there h other (omega (arith, rises, le)) shown;
}

good_same : (site : Site) (seen : Seen) (nodes : List Node) (at f : ℕ) (kids : List Kid) (conds : List Lit) → slice_get nodes at ≡ Some (Cut f kids)
    → IsGoodCond site seen nodes at conds → (kid : Kid) → IsLater nodes at f kid → IsGoodCond site seen nodes kid.node conds
good_same site seen nodes at f kids conds there good kid later = record {
  printed = good.printed;
  room = λ g others cut h other le shown. let rises = later.rises g others cut in good.room f kids there h other (omega (arith, rises, le)) shown;
}

pub each_append : {X : Type 0} (P : X → Type 0) (xs ys : List X) → AllByRecursion P xs → AllByRecursion P ys → AllByRecursion P (xs ++ ys)
each_append P [] ys h k = k
each_append P (x ∷ xs) ys h k = (h.0, each_append P xs ys h.1 k)

pub each_split : (P : Kid → Type 0) (front back : List Kid) (other : Kid) → AllByRecursion P (front ++ other ∷ back) → AllByRecursion P (front ++ back) × P other
each_split P [] back other h = (h.1, h.0)
each_split P (k ∷ front) back other h = let r = each_split P front back other h.1 in ((h.0, r.0), r.1)

lit_turns : (P : Turn → Type 0) (test : Lit → Bool) (node : ℕ) → ((lit : Lit) → test lit ≡ true → P (record { lit = Some lit; node = node }))
    → (lits : List Lit) → list_all test lits ≡ true → AllByRecursion P (turns_for node lits)
lit_turns P test node each [] h = tt
lit_turns P test node each (l ∷ lits) h = let parts = and_parts (test l) (list_all test lits) h in (each l parts.0, lit_turns P test node each lits parts.1)

pub kid_turns : (P : Turn → Type 0) (Q : Kid → Type 0) (test : Lit → Bool) (Is : List Iv → List Lit → Type 0) → ((set : List Iv) (lits : List Lit) → Is set lits → list_all test lits ≡ true)
    → ((kid : Kid) → Q kid → (lit : Lit) → test lit ≡ true → P (record { lit = Some lit; node = kid.node }))
    → (kids : List Kid) (turns : List Turn) → AllByRecursion Q kids → AreKidTurns Is kids turns → AllByRecursion P turns
kid_turns P Q test Is all each [] turns h made = subst (λ l. AllByRecursion P l) (sym made) tt
kid_turns P Q test Is all each (k ∷ kids) turns h made =
    subst (λ l. AllByRecursion P l) (sym made.2)
    (each_append P (turns_for k.node made.0) made.1 (lit_turns P test k.node (each k h.0) made.0 (all k.set made.0 made.3)) (kid_turns P Q test Is all each kids made.1 h.1 made.4))

pub later_kids : (tops : List ℕ) (leaves : List Choice) (nodes : List Node) (at f : ℕ) (kids : List Kid) → IsCutNode tops leaves nodes at f kids → AllByRecursion (IsLater nodes at f) kids
later_kids tops leaves nodes at f kids node =
    let before : All (λ kid. kid.node < at) kids = All-from_recursion (λ kid. kid.node < at) kids node.before in
    recursion_from_All (IsLater nodes at f) kids (λ k d lt. record {
      before = before k d lt;
      rises = λ g others cut. node.rising k g (slice_index_or kids k d) others (slice_get-get_or kids k d lt) cut;
    })

pub cut_turns_good : (site : Site) (tops : List ℕ) (seen : Seen) (leaves : List Choice) (nodes : List Node) (at f : ℕ) (kids : List Kid) (conds : List Lit) (turns : List Turn)
    → slice_get nodes at ≡ Some (Cut f kids) → IsCutNode tops leaves nodes at f kids → IsGoodCond site seen nodes at conds → AreCutTurns seen f kids turns
    → All (IsGoodTurn site seen nodes at conds) turns
cut_turns_good site tops seen leaves nodes at f kids conds turns there node good made =
    let P = IsGoodTurn site seen nodes at conds in
    let parts = each_split (IsLater nodes at f) made.front made.back made.other (subst (λ l. AllByRecursion (IsLater nodes at f) l) made.split (later_kids tops leaves nodes at f kids node)) in
    let last : P (record { lit = None; node = made.other.node }) = record { before = parts.1.before; good = good_same site seen nodes at f kids conds there good made.other parts.1 } in
    All-from_recursion P turns (subst (λ l. AllByRecursion P l) (sym made.all)
    (each_append P made.tests (last_turn made.other) (of_tests made.tests (made.front ++ made.back) parts.0 (seen_field seen f) refl made.sorted) (last, tt)))
  where
    of_tests : (tests : List Turn) (others : List Kid) → AllByRecursion (IsLater nodes at f) others → (o : Option PacketField) → seen_field seen f ≡ o
        → MatchOption o (tests ≡ []) (λ field. AreKidTurns (ArePieces field) others tests) → AllByRecursion (IsGoodTurn site seen nodes at conds) tests
    of_tests tests others later None e h = subst (λ l. AllByRecursion (IsGoodTurn site seen nodes at conds) l) (sym h) tt
    of_tests tests others later (Some field) e h =
        kid_turns (IsGoodTurn site seen nodes at conds) (IsLater nodes at f) (is_printed_at site (place_at field)) (ArePieces field) (λ set lits is. is.printed site)
        (λ kid is lit printed. record { before = is.before; good = good_lit site seen nodes at f field kids conds there e good kid is lit printed }) others tests later h

-- ---- the turns of the root

direction_printed : (site : Site) (outward : Bool) → is_printed_cond site (direction outward ∷ []) ≡ true
direction_printed site true = refl
direction_printed site false = refl

free_three : (field : PacketField) → (nat_eq 3 (place_at field) || false) ≡ false
free_three Proto = refl
free_three Dst = refl
free_three Dport = refl
free_three Src = refl
free_three Sport = refl
free_three Flags = refl
free_three Icmp = refl

free_four : (field : PacketField) → nat_eq 4 (place_at field) ≡ false
free_four Proto = refl
free_four Dst = refl
free_four Dport = refl
free_four Src = refl
free_four Sport = refl
free_four Flags = refl
free_four Icmp = refl

-- the direction alone is a good condition for each node
pub good_direction : (site : Site) (seen : Seen) (nodes : List Node) (at : ℕ) (outward : Bool) → IsGoodCond site seen nodes at (direction outward ∷ [])
good_direction site seen nodes at outward = record {
  printed = direction_printed site outward;
  room = λ f kids there g field le shown. free_three field;
}

pub good_root_turn : (site : Site) (seen : Seen) (nodes : List Node) (at : ℕ) (outward : Bool) (lit : Option Lit) → option_map_or (is_printed_at site 4) lit true ≡ true
    → IsGoodCond site seen nodes at (with_lit lit (direction outward ∷ []))
good_root_turn site seen nodes at outward None h = good_direction site seen nodes at outward
good_root_turn site seen nodes at outward (Some lit) h = record {
  printed = inserted_printed site 4 lit (direction outward ∷ []) h refl (direction_printed site outward);
  room = λ f kids there g field le shown.
      inserted_place (place_at field) lit (direction outward ∷ [])
      ∙ ap (λ b. b || (nat_eq 3 (place_at field) || false)) (ap (λ n. nat_eq n (place_at field)) (eqb-true (place_of lit.test) 4 (and_parts (nat_eq (place_of lit.test) 4) (is_printed_literal site lit) h).0) ∙ free_four field)
      ∙ free_three field;
}

pub good_turn : (site : Site) (seen : Seen) (nodes : List Node) (at : ℕ) (conds : List Lit) (turn : Turn) (next : List Lit) → IsGoodTurn site seen nodes at conds turn → next ≡ with_lit turn.lit conds
    → IsGoodCond site seen nodes turn.node next
good_turn site seen nodes at conds turn next good is = subst (λ l. IsGoodCond site seen nodes turn.node l) (sym is) good.good
