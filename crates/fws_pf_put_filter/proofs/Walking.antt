-- What rules do with transits that have one tag.
use Rattle.std.proofs.Common.{◌≡◌, ◌≢◌, ◌⊎◌, ℕ, zero, suc, ◌+◌, ◌<◌, Bool, true, false, ◌&&◌, ◌||◌, cond, Some, List, [], ◌∷◌, ◌++◌, length, get_or, slice_get, take, inl, inr, refl, sym, ◌∙◌, ap, subst, append_assoc, append-nil}
use Rattle.std.proofs.lemmas.Bool.{and_from, and_parts, or_parts, cases_Bool, cond-false, eq-eqb, eqb-true, false≢true, false_from_ne_true}
use Rattle.std.proofs.lemmas.List.{take_more}
use Rattle.std.proofs.lemmas.List.Folds.{list_all-append}
use Rattle.std.proofs.lemmas.Option.{same_Some, none-some}
use Rattle.std.specs.List.{list_all, list_any}
use Rattle.std.specs.Prelude.{nat_eq}
use Rattle.fws_iv.specs.declared.iv.Iv.{Iv}
use Rattle.fws_net.specs.declared.condition.Lit.{Lit}
use Rattle.fws_net.specs.declared.outcome.Outcome.{Outcome}
use Rattle.fws_net.specs.declared.outcome.Outcome.TheVariants.{Drop}
use Rattle.fws_net.specs.declared.site.Site.{Site}
use Rattle.fws_net.specs.declared.transit.Transit.{Transit}
use Rattle.fws_net.specs.declared.view.View.{View}
use Rattle.fws_net.specs.Conditions.{holds, lit_holds}
use Rattle.fws_pf.specs.declared.config.PfRule.{PfRule}
use Rattle.fws_pf.specs.declared.config.Way.{Way}
use Rattle.fws_pf.specs.Walk.{acted, is_met, matches, rules_walk, view_on}
use Rattle.fws_tree.specs.declared.node.Kid.{Kid}
use Rattle.fws_tree.specs.declared.node.Node.{Node}
use Rattle.fws_pf_put_filter.specs.declared.tested.Tested.{Tested}
use Rattle.fws_pf_print.specs.Printable.{is_printed_rule}
use Rattle.fws_pf_put_filter.specs.Blocks.{under, AreSound, LetsBy}
use Rattle.fws_pf_put_filter.specs.Conds.{hits_set, is_printed_with, way_of, IsOfSite, IsViewed}
use Rattle.fws_pf_put_filter.specs.Filters.{keeps_state}
use Rattle.fws_pf_put_filter.specs.Literals.{tag_lit}
use Rattle.fws_pf_put_filter.specs.Rules.{moved, moves, AreAllKidRules, AreKidRules, IsLastRule}
use Rattle.fws_pf_put_filter.specs.States.{state_at, IsLeafNode}

-- ---- tags

pub tag_differs : (n k : ℕ) → n ≢ k → nat_eq n k ≡ false
tag_differs n k ne = false_from_ne_true (nat_eq n k) (λ e. ne (eqb-true n k e))

-- a condition with another tag fails
pub other_tag : (site : Site) (outward verdict : Bool) (n k : ℕ) (t : Transit) (c : List Lit) → n ≢ k → holds (c ++ tag_lit n ∷ []) (view_on site outward (under k verdict t)) ≡ false
other_tag site outward verdict n k t c ne =
    list_all-append (lit_holds (view_on site outward (under k verdict t))) c (tag_lit n ∷ [])
    ∙ ap (λ b. list_all (lit_holds (view_on site outward (under k verdict t))) c && ((b || false) && true)) (tag_differs n k ne)
    ∙ never (list_all (lit_holds (view_on site outward (under k verdict t))) c)
  where
    never : (b : Bool) → (b && false) ≡ false
    never true = refl
    never false = refl

-- one with the same tag holds where all else in it does
pub same_tag : (site : Site) (outward verdict : Bool) (n : ℕ) (t : Transit) (c : List Lit)
    → holds (c ++ tag_lit n ∷ []) (view_on site outward (under n verdict t)) ≡ holds c (view_on site outward (under n verdict t))
same_tag site outward verdict n t c =
    list_all-append (lit_holds (view_on site outward (under n verdict t))) c (tag_lit n ∷ [])
    ∙ ap (λ b. list_all (lit_holds (view_on site outward (under n verdict t))) c && ((b || false) && true)) (eq-eqb n n refl)
    ∙ always (list_all (lit_holds (view_on site outward (under n verdict t))) c)
  where
    always : (b : Bool) → (b && true) ≡ b
    always true = refl
    always false = refl

never_met : (b : Bool) → (b && false) ≡ false
never_met true = refl
never_met false = refl

-- ---- moving rules

moved_by : (site : Site) (way : Way) (n s k : ℕ) (c : List Lit) (outward : Bool) (t : Transit) (rest : List PfRule) → n ≢ k
    → rules_walk site outward (moved way n s c ∷ rest) (under k false t) ≡ rules_walk site outward rest (under k false t)
moved_by site way n s k c outward t rest ne =
    cond-false (matches site outward (moved way n s c) (under k false t)) (rules_walk site outward rest (acted (moved way n s c) (under k false t))) (rules_walk site outward rest (under k false t))
    (ap (λ b. is_met way outward && b) (other_tag site outward false n k t c ne) ∙ never_met (is_met way outward))

pub moves_by : (site : Site) (way : Way) (n s : ℕ) (conds : List (List Lit)) → LetsBy site n (moves way n s conds)
moves_by site way n s [] = λ outward k t rest ne. refl
moves_by site way n s (c ∷ conds) = λ outward k t rest ne. moved_by site way n s k c outward t (moves way n s conds ++ rest) ne ∙ moves_by site way n s conds outward k t rest ne

-- a rule at whose state the transit is
moved_at : (site : Site) (way : Way) (n s : ℕ) (c : List Lit) (outward : Bool) (t : Transit) (rest : List PfRule) (b : Bool) → is_met way outward ≡ true
    → holds c (view_on site outward (under n false t)) ≡ b
    → rules_walk site outward (moved way n s c ∷ rest) (under n false t) ≡ cond b (rules_walk site outward rest (under s false t)) (rules_walk site outward rest (under n false t))
moved_at site way n s c outward t rest b met is =
    ap (λ x. cond x (rules_walk site outward rest (under s false t)) (rules_walk site outward rest (under n false t)))
    (ap (λ x. x && holds (c ++ tag_lit n ∷ []) (view_on site outward (under n false t))) met ∙ same_tag site outward false n t c ∙ is)

moves_hit : (site : Site) (way : Way) (n s : ℕ) (conds : List (List Lit)) (outward : Bool) (t : Transit) (rest : List PfRule) → n ≢ s → is_met way outward ≡ true
    → list_any (λ c. holds c (view_on site outward (under n false t))) conds ≡ true → rules_walk site outward (moves way n s conds ++ rest) (under n false t) ≡ rules_walk site outward rest (under s false t)
moves_hit site way n s [] outward t rest ne met h = absurd (false≢true h)
moves_hit site way n s (c ∷ conds) outward t rest ne met h =
    let v : View = view_on site outward (under n false t) in
    elim (cases_Bool (holds c v)) [
      | inl y ↦ moved_at site way n s c outward t (moves way n s conds ++ rest) true met y ∙ moves_by site way n s conds outward s t rest ne
      | inr z ↦ moved_at site way n s c outward t (moves way n s conds ++ rest) false met z
          ∙ moves_hit site way n s conds outward t rest ne met (sym (ap (λ b. b || list_any (λ c. holds c v) conds) z) ∙ h)
    ]

moves_miss : (site : Site) (way : Way) (n s : ℕ) (conds : List (List Lit)) (outward : Bool) (t : Transit) (rest : List PfRule) → is_met way outward ≡ true
    → list_any (λ c. holds c (view_on site outward (under n false t))) conds ≡ false → rules_walk site outward (moves way n s conds ++ rest) (under n false t) ≡ rules_walk site outward rest (under n false t)
moves_miss site way n s [] outward t rest met h = refl
moves_miss site way n s (c ∷ conds) outward t rest met h =
    let v : View = view_on site outward (under n false t) in
    let parts = or_parts (holds c v) (list_any (λ c. holds c v) conds) h in
    moved_at site way n s c outward t (moves way n s conds ++ rest) false met parts.0 ∙ moves_miss site way n s conds outward t rest met parts.1

pub moves_sound : (site : Site) (way : Way) (n s : ℕ) (conds : List (List Lit)) → list_all (is_printed_with site n) conds ≡ true → AreSound site (moves way n s conds)
moves_sound site way n s conds h = record {
  printed = printed conds h;
  tracks = tracks conds;
}
  where
    printed : (conds : List (List Lit)) → list_all (is_printed_with site n) conds ≡ true → list_all (is_printed_rule site) (moves way n s conds) ≡ true
    printed [] h = refl
    printed (c ∷ conds) h =
        let parts = and_parts (is_printed_with site n c) (list_all (is_printed_with site n) conds) h in
        and_from (is_printed_with site n c) (list_all (is_printed_rule site) (moves way n s conds)) parts.0 (printed conds parts.1)

    tracks : (conds : List (List Lit)) → list_all keeps_state (moves way n s conds) ≡ true
    tracks [] = refl
    tracks (c ∷ conds) = tracks conds

-- ---- blocks put together

pub no_rules_sound : (site : Site) → AreSound site []
no_rules_sound site = record { printed = refl; tracks = refl }

pub both_sound : (site : Site) (a b : List PfRule) → AreSound site a → AreSound site b → AreSound site (a ++ b)
both_sound site a b h g = record {
  printed = list_all-append (is_printed_rule site) a b ∙ and_from (list_all (is_printed_rule site) a) (list_all (is_printed_rule site) b) h.printed g.printed;
  tracks = list_all-append keeps_state a b ∙ and_from (list_all keeps_state a) (list_all keeps_state b) h.tracks g.tracks;
}

pub joined : (site : Site) (outward : Bool) (a b rest : List PfRule) (t : Transit) → rules_walk site outward ((a ++ b) ++ rest) t ≡ rules_walk site outward (a ++ (b ++ rest)) t
joined site outward a b rest t = ap (λ l. rules_walk site outward l t) (append_assoc a b rest)

pub both_by : (site : Site) (n : ℕ) (a b : List PfRule) → LetsBy site n a → LetsBy site n b → LetsBy site n (a ++ b)
both_by site n a b h g = λ outward k t rest ne. joined site outward a b rest (under k false t) ∙ h outward k t (b ++ rest) ne ∙ g outward k t rest ne

-- ---- the rules of kids

kid_by : (site : Site) (tested : Tested) (n d s : ℕ) (set : List Iv) (block : List PfRule) → AreKidRules tested n d s set block → LetsBy site n block
kid_by site tested n d s set block (inl a) = subst (λ l. LetsBy site n l) (sym a.1) (λ outward k t rest ne. refl)
kid_by site tested n d s set block (inr b) = subst (λ l. LetsBy site n l) (sym b.2) (moves_by site (way_of tested) n s b.0)

kid_sound : (site : Site) (tested : Tested) (n d s : ℕ) (set : List Iv) (block : List PfRule) → IsOfSite site tested → AreKidRules tested n d s set block → AreSound site block
kid_sound site tested n d s set block of (inl a) = subst (λ l. AreSound site l) (sym a.1) (no_rules_sound site)
kid_sound site tested n d s set block of (inr b) = subst (λ l. AreSound site l) (sym b.2) (moves_sound site (way_of tested) n s b.0 (b.1.printed site n of))

pub kids_by : (site : Site) (tested : Tested) (states : List ℕ) (n d : ℕ) (kids : List Kid) (block : List PfRule) → AreAllKidRules tested states n d kids block → LetsBy site n block
kids_by site tested states n d [] block h = subst (λ l. LetsBy site n l) (sym h) (λ outward k t rest ne. refl)
kids_by site tested states n d (kid ∷ kids) block h =
    subst (λ l. LetsBy site n l) (sym h.2)
    (both_by site n h.0 h.1 (kid_by site tested n d (state_at states kid.node) kid.set h.0 h.3) (kids_by site tested states n d kids h.1 h.4))

pub kids_sound : (site : Site) (tested : Tested) (states : List ℕ) (n d : ℕ) (kids : List Kid) (block : List PfRule) → IsOfSite site tested → AreAllKidRules tested states n d kids block → AreSound site block
kids_sound site tested states n d [] block of h = subst (λ l. AreSound site l) (sym h) (no_rules_sound site)
kids_sound site tested states n d (kid ∷ kids) block of h =
    subst (λ l. AreSound site l) (sym h.2)
    (both_sound site h.0 h.1 (kid_sound site tested n d (state_at states kid.node) kid.set h.0 of h.3) (kids_sound site tested states n d kids h.1 of h.4))

-- the rules move a transit to the state of a kid that it hits
pub record HitsKid (site : Site) (tested : Tested) (states : List ℕ) (n : ℕ) (outward : Bool) (t : Transit) (kids : List Kid) (block : List PfRule) : Type 0 where
  pub place : ℕ
  pub kid : Kid
  pub there : slice_get kids place ≡ Some kid
  pub hit : hits_set tested kid.set t.packet ≡ true
  pub goes : (rest : List PfRule) → rules_walk site outward (block ++ rest) (under n false t) ≡ rules_walk site outward rest (under (state_at states kid.node) false t)

-- or leave it, if it hits only kids of the default state
pub record MissesKids (site : Site) (tested : Tested) (states : List ℕ) (n d : ℕ) (outward : Bool) (t : Transit) (kids : List Kid) (block : List PfRule) : Type 0 where
  pub others : (i : ℕ) (kid : Kid) → slice_get kids i ≡ Some kid → hits_set tested kid.set t.packet ≡ true → state_at states kid.node ≡ d
  pub stays : (rest : List PfRule) → rules_walk site outward (block ++ rest) (under n false t) ≡ rules_walk site outward rest (under n false t)

-- the states of kids are others than the node's
abbrev pub AreOthers : List ℕ → ℕ → List Kid → Type 0
AreOthers states n kids = (i : ℕ) (kid : Kid) → slice_get kids i ≡ Some kid → n ≢ state_at states kid.node

pub kids_moved : (site : Site) (tested : Tested) (states : List ℕ) (n d : ℕ) (outward : Bool) (t : Transit) → is_met (way_of tested) outward ≡ true → IsViewed tested (view_on site outward (under n false t))
    → (kids : List Kid) (block : List PfRule) → AreOthers states n kids → AreAllKidRules tested states n d kids block
    → HitsKid site tested states n outward t kids block ⊎ MissesKids site tested states n d outward t kids block
kids_moved site tested states n d outward t met seen [] block other h = inr (record {
  others = λ i kid there hit. absurd (none_there i kid there);
  stays = λ rest. ap (λ l. rules_walk site outward (l ++ rest) (under n false t)) h;
})
  where
    none_there : (i : ℕ) (kid : Kid) → slice_get {X = Kid} [] i ≡ Some kid → ⊥
    none_there zero kid e = none-some kid e
    none_there (suc i) kid e = none-some kid e
kids_moved site tested states n d outward t met seen (kid ∷ kids) block other h =
    let s : ℕ = state_at states kid.node in
    let ne = other 0 kid refl in
    let later = kids_by site tested states n d kids h.1 h.4 in
    let more = kids_moved site tested states n d outward t met seen kids h.1 (λ i k there. other (suc i) k there) h.4 in
    let whole : (rest : List PfRule) → rules_walk site outward (block ++ rest) (under n false t) ≡ rules_walk site outward (h.0 ++ (h.1 ++ rest)) (under n false t) =
    λ rest. ap (λ l. rules_walk site outward (l ++ rest) (under n false t)) h.2 ∙ joined site outward h.0 h.1 rest (under n false t) in
    first kid kids block h.0 h.1 ne later whole h.3 more
  where
    after : (kid : Kid) (kids : List Kid) (block a b : List PfRule)
        → ((rest : List PfRule) → rules_walk site outward (block ++ rest) (under n false t) ≡ rules_walk site outward (b ++ rest) (under n false t))
        → (hits_set tested kid.set t.packet ≡ true → state_at states kid.node ≡ d)
        → HitsKid site tested states n outward t kids b ⊎ MissesKids site tested states n d outward t kids b
        → HitsKid site tested states n outward t (kid ∷ kids) block ⊎ MissesKids site tested states n d outward t (kid ∷ kids) block
    after kid kids block a b whole missed (inl r) = inl (record {
      place = suc r.place;
      kid = r.kid;
      there = r.there;
      hit = r.hit;
      goes = λ rest. whole rest ∙ r.goes rest;
    })
    after kid kids block a b whole missed (inr r) = inr (record {
      others = each r;
      stays = λ rest. whole rest ∙ r.stays rest;
    })
      where
        each : MissesKids site tested states n d outward t kids b → (i : ℕ) (k : Kid) → slice_get (kid ∷ kids) i ≡ Some k → hits_set tested k.set t.packet ≡ true → state_at states k.node ≡ d
        each r zero k there hit = subst (λ (x : Kid). hits_set tested x.set t.packet ≡ true → state_at states x.node ≡ d) (same_Some kid k there) missed hit
        each r (suc i) k there hit = r.others i k there hit

    first : (kid : Kid) (kids : List Kid) (block a b : List PfRule) → n ≢ state_at states kid.node → LetsBy site n b
        → ((rest : List PfRule) → rules_walk site outward (block ++ rest) (under n false t) ≡ rules_walk site outward (a ++ (b ++ rest)) (under n false t))
        → AreKidRules tested n d (state_at states kid.node) kid.set a
        → HitsKid site tested states n outward t kids b ⊎ MissesKids site tested states n d outward t kids b
        → HitsKid site tested states n outward t (kid ∷ kids) block ⊎ MissesKids site tested states n d outward t (kid ∷ kids) block
    first kid kids block a b ne later whole (inl x) more =
        after kid kids block a b (λ rest. whole rest ∙ ap (λ l. rules_walk site outward (l ++ (b ++ rest)) (under n false t)) x.1) (λ hit. x.0) more
    first kid kids block a b ne later whole (inr x) more =
        let s : ℕ = state_at states kid.node in
        let v : View = view_on site outward (under n false t) in
        let is : list_any (λ c. holds c v) x.0 ≡ hits_set tested kid.set t.packet = x.1.hit v seen in
        let made : (rest : List PfRule) → rules_walk site outward (block ++ rest) (under n false t) ≡ rules_walk site outward (moves (way_of tested) n s x.0 ++ (b ++ rest)) (under n false t) =
        λ rest. whole rest ∙ ap (λ l. rules_walk site outward (l ++ (b ++ rest)) (under n false t)) x.2 in
        elim (cases_Bool (hits_set tested kid.set t.packet)) [
          | inl y ↦ inl (record {
            place = 0;
            kid = kid;
            there = refl;
            hit = y;
            goes = λ rest. made rest ∙ moves_hit site (way_of tested) n s x.0 outward t (b ++ rest) ne met (is ∙ y) ∙ later outward s t rest ne;
          })
          | inr z ↦ after kid kids block a b (λ rest. made rest ∙ moves_miss site (way_of tested) n s x.0 outward t (b ++ rest) met (is ∙ z))
              (λ hit. absurd (false≢true (sym z ∙ hit))) more
        ]

-- ---- the last rule

pub last_by : (site : Site) (leaves : List Outcome) (nodes : List Node) (way : Way) (n d : ℕ) (block : List PfRule) → IsLastRule leaves nodes way n d block → LetsBy site n block
last_by site leaves nodes way n d block (inl a) = subst (λ l. LetsBy site n l) (sym a.0) (λ outward k t rest ne. refl)
last_by site leaves nodes way n d block (inr b) = subst (λ l. LetsBy site n l) (sym b) (moves_by site way n d ([] ∷ []))

pub last_sound : (site : Site) (leaves : List Outcome) (nodes : List Node) (way : Way) (n d : ℕ) (block : List PfRule) → IsLastRule leaves nodes way n d block → AreSound site block
last_sound site leaves nodes way n d block (inl a) = subst (λ l. AreSound site l) (sym a.0) (no_rules_sound site)
last_sound site leaves nodes way n d block (inr b) = subst (λ l. AreSound site l) (sym b) (moves_sound site way n d ([] ∷ []) refl)

-- it moves a transit to the default state, or leaves it where packets are dropped there
pub last_moved : (site : Site) (leaves : List Outcome) (nodes : List Node) (way : Way) (n d : ℕ) (outward : Bool) (t : Transit) (block : List PfRule) → n ≢ d → is_met way outward ≡ true
    → IsLastRule leaves nodes way n d block → (rest : List PfRule)
    → (rules_walk site outward (block ++ rest) (under n false t) ≡ rules_walk site outward rest (under d false t))
    ⊎ (IsLeafNode leaves nodes d Drop × (rules_walk site outward (block ++ rest) (under n false t) ≡ rules_walk site outward rest (under n false t)))
last_moved site leaves nodes way n d outward t block ne met (inl a) rest = inr (a.1, ap (λ l. rules_walk site outward (l ++ rest) (under n false t)) a.0)
last_moved site leaves nodes way n d outward t block ne met (inr b) rest =
    inl (ap (λ l. rules_walk site outward (l ++ rest) (under n false t)) b ∙ moves_hit site way n d ([] ∷ []) outward t rest ne met refl)

-- ---- one kid more

pub kid_rules_more : (tested : Tested) (states : List ℕ) (n d : ℕ) (kids : List Kid) (i : ℕ) (kid : Kid) (block more : List PfRule) → i < length kids → kid ≡ get_or kids i kid
    → AreAllKidRules tested states n d (take i kids) block → AreKidRules tested n d (state_at states kid.node) kid.set more → AreAllKidRules tested states n d (take (i + 1) kids) (block ++ more)
kid_rules_more tested states n d kids i kid block more lt is h g =
    subst (λ l. AreAllKidRules tested states n d l (block ++ more)) (sym (take_more kids i kid lt ∙ ap (λ (k : Kid). take i kids ++ k ∷ []) (sym is))) (behind (take i kids) block h)
  where
    behind : (kids : List Kid) (block : List PfRule) → AreAllKidRules tested states n d kids block → AreAllKidRules tested states n d (kids ++ kid ∷ []) (block ++ more)
    behind [] block h = (more, [], ap (λ l. l ++ more) h ∙ sym (append-nil more), g, refl)
    behind (k ∷ kids) block h = (h.0, h.1 ++ more, ap (λ l. l ++ more) h.2 ∙ append_assoc h.0 h.1 more, h.3, behind kids h.1 h.4)
