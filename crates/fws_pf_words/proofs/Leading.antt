-- What words do to a value, whatever values it has already.
use Rattle.std.proofs.Common.{◌≡◌, ℕ, ◌-◌, Bool, true, false, cond, Option, None, Some, IfSome, is_some, option_map, List, [], ◌∷◌, ◌++◌, length, take, drop, refl, sym, ap, subst, ◌∙◌, true≢false, arith}
use Rattle.std.proofs.lemmas.List.{append-nil, drop-append-le, drop_at, length-append, length-drop, take-append-le, take_all}
use Rattle.std.proofs.lemmas.Slice.Eq.{bytes_eq-Decides}
use Rattle.std.specs.Map.{lookup, set_value}
use Rattle.std.specs.Option.{option_map_or}
use Rattle.std.specs.Str.{bytes_eq}
use Rattle.fws_num.specs.declared.word.Word.{Word}
use Rattle.fws_pf.specs.declared.macros.Macro.{Macro}
use Rattle.fws_pf.specs.declared.value_draft.Item.{Item}
use Rattle.fws_pf.specs.declared.value_draft.ValueDraft.{ValueDraft}
use Rattle.fws_pf.specs.Values.{Setting}
use Rattle.fws_pf_words.specs.declared.known_uses.KnownUses.{KnownUses}
use Rattle.fws_pf_words.specs.declared.long_value.Spot.{Spot}
use Rattle.fws_pf_words.specs.declared.ways.Way.{Way}
use Rattle.fws_pf_words.specs.Fronts.{emptied, with_front, within}
use Rattle.fws_pf_words.specs.Spots.{at_spot, came_again, spot_of}
use Rattle.fws_pf_words.specs.Uses.{words_named}
use Rattle.fws_pf_words.specs.UsesKnown.{AreUses, front_named}
use Rattle.fws_pf_words.specs.WaysKnown.{AreWays, AreWaysOf, IsWay}
use Rattle.fws_pf_words.proofs.Staying.{words_ahead}

-- A value grows

some_same : {X : Type 0} (x y : X) → Some x ≡ Some y → x ≡ y
some_same x y e = ap (λ o. option_map_or (λ z. z) o x) e

none_some : {X Y : Type 0} (x : X) → None ≡ Some x → Y
none_some {X = X} x e = absurd (true≢false (sym (ap (λ (o : Option X). is_some o) e)))

pub record Grown (setting : Setting) (ws : List Word) (d e : ValueDraft) : Type 0 where
  pub own : ValueDraft
  pub goes : within setting ws (emptied d) ≡ Some own
  pub whole : e ≡ with_front d.items own

grown_own : (setting : Setting) (ws : List Word) (d e : ValueDraft) (o : Option ValueDraft) → within setting ws (emptied d) ≡ o → option_map (with_front d.items) o ≡ Some e
    → Grown setting ws d e
grown_own setting ws d e (Some own) g h = record { own = own; goes = g; whole = sym (some_same (with_front d.items own) e h) }
grown_own setting ws d e None g h = none_some e h

pub grown : (setting : Setting) (ws : List Word) (d e : ValueDraft) → within setting ws d ≡ Some e → Grown setting ws d e
grown setting ws d e h =
    let whole : with_front d.items (emptied d) ≡ d = ap (λ (l : List Item). record d { items = l }) (append-nil d.items) in
    grown_own setting ws d e (within setting ws (emptied d)) refl (sym (words_ahead setting ws d.items (emptied d)) ∙ ap (within setting ws) whole ∙ h)

-- Ways stay as a list grows

pub way_stays : (setting : Setting) (words : List Word) (items more : List Item) (way : Way) → IsWay setting words items way → IsWay setting words (items ++ more) way
way_stays setting words items more way is =
    let n = length-append items more in
    let i = is.inside in
    let k = length-drop way.from items in
    let same : take way.count (drop way.from (items ++ more)) ≡ take way.count (drop way.from items) =
    ap (take way.count) (drop-append-le way.from items more (omega arith)) ∙ take-append-le way.count (drop way.from items) more (omega arith) in
    record {
      inside = omega arith;
      leads = is.leads ∙ ap (λ (l : List Item). Some (at_spot way.end l)) (sym same);
    }

ways_stay_of : (setting : Setting) (words : List Word) (items more : List Item) (known : List Way) → AreWaysOf setting words items known
    → AreWaysOf setting words (items ++ more) known
ways_stay_of setting words items more [] are = tt
ways_stay_of setting words items more (way ∷ known) are = (way_stays setting words items more way are.0, ways_stay_of setting words items more known are.1)

pub ways_stay : (setting : Setting) (words_of : List ℕ → List Word) (items more now : List Item) (es : List (List ℕ × List Way)) → now ≡ items ++ more
    → AreWays setting words_of items es → AreWays setting words_of now es
ways_stay setting words_of items more now es n are =
    subst (λ l. AreWays setting words_of l es) (sym n) (λ name known h. ways_stay_of setting (words_of name) items more known (are name known h))

-- ways that are known stay as words are taken
pub ways_grown : (setting : Setting) (words_of : List ℕ → List Word) (ws : List Word) (d e : ValueDraft) (es : List (List ℕ × List Way)) → within setting ws d ≡ Some e
    → AreWays setting words_of d.items es → AreWays setting words_of e.items es
ways_grown setting words_of ws d e es h are =
    let g = grown setting ws d e h in ways_stay setting words_of d.items g.own.items e.items es (ap (λ (v : ValueDraft). v.items) g.whole) are

-- A way is used

pub way_used : (setting : Setting) (words rest : List Word) (way : Way) (skipped : ℕ) (d new : ValueDraft) → IsWay setting words d.items way → way.skipped ≡ skipped
    → drop skipped words ≡ rest → way.start ≡ spot_of d → new ≡ came_again way.from way.count way.end d → within setting rest d ≡ Some new
way_used setting words rest way skipped d new is k r s n =
    let whole : with_front d.items (at_spot (spot_of d) []) ≡ d = ap (λ (l : List Item). record d { items = l }) (append-nil d.items) in
    let leads : within setting rest (at_spot (spot_of d) []) ≡ Some (at_spot way.end (take way.count (drop way.from d.items))) =
    ap (λ l. within setting l (at_spot (spot_of d) [])) (sym (ap (λ m. drop m words) k ∙ r)) ∙ ap (λ (t : Spot). within setting (drop way.skipped words) (at_spot t [])) (sym s) ∙ is.leads in
    ap (within setting rest) (sym whole) ∙ words_ahead setting rest d.items (at_spot (spot_of d) []) ∙ ap (option_map (with_front d.items)) leads
    ∙ ap (λ (v : ValueDraft). Some v) (sym n)

-- A way is found

pub way_found : (setting : Setting) (words rest : List Word) (way : Way) (d e : ValueDraft) → within setting rest d ≡ Some e → drop way.skipped words ≡ rest
    → way.start ≡ spot_of d → way.end ≡ spot_of e → way.from ≡ length d.items → way.count ≡ length e.items - way.from → IsWay setting words e.items way
way_found setting words rest way d e h r s t f c =
    let g = grown setting rest d e h in
    let more : e.items ≡ d.items ++ g.own.items = ap (λ (v : ValueDraft). v.items) g.whole in
    let n = ap length more ∙ length-append d.items g.own.items in
    let behind : drop way.from e.items ≡ g.own.items = ap (drop way.from) more ∙ drop_at d.items g.own.items way.from (sym f) in
    let own : take way.count (drop way.from e.items) ≡ g.own.items = ap (take way.count) behind ∙ take_all way.count g.own.items (omega arith) in
    let ends : spot_of g.own ≡ way.end = sym (ap spot_of g.whole) ∙ sym t in
    record {
      inside = omega arith;
      leads =
          ap (λ l. within setting l (at_spot way.start [])) r ∙ ap (λ (p : Spot). within setting rest (at_spot p [])) s ∙ g.goes
          ∙ (λ i. Some (at_spot (ends i) (sym own i)));
    }

-- Ways are kept by names

looked_in : (n : List ℕ) (b : Bool) (xs ys : List (List ℕ × List Way)) → lookup (bytes_eq n) (cond b xs ys) ≡ cond b (lookup (bytes_eq n) xs) (lookup (bytes_eq n) ys)
looked_in n true xs ys = refl
looked_in n false xs ys = refl

at_entry : (P : Type 0) (w k old : List Way) (r s : Option (List Way)) (b c : Bool) → (b ≡ true → c ≡ true → w ≡ k → P) → (cond c (Some old) r ≡ Some k → P) → (s ≡ Some k → (r ≡ Some k → P) → P)
    → cond b (cond c (Some w) r) (cond c (Some old) s) ≡ Some k → P
at_entry P w k old r s true true same was next h = same refl refl (some_same w k h)
at_entry P w k old r s true false same was next h = was h
at_entry P w k old r s false true same was next h = was h
at_entry P w k old r s false false same was next h = next h was

known_set : (n name : List ℕ) (w k : List Way) (P : Type 0) → (n ≡ name → w ≡ k → P) → (es : List (List ℕ × List Way)) → (lookup (bytes_eq n) es ≡ Some k → P)
    → lookup (bytes_eq n) (set_value (bytes_eq name) es w) ≡ Some k → P
known_set n name w k P same [] old h = old h
known_set n name w k P same (e ∷ es) old h =
    at_entry P w k e.1 (lookup (bytes_eq n) es) (lookup (bytes_eq n) (set_value (bytes_eq name) es w)) (bytes_eq name e.0) (bytes_eq n e.0)
    (λ b c v. same ((bytes_eq-Decides n e.0).0 c ∙ sym ((bytes_eq-Decides name e.0).0 b)) v) old (λ g was. known_set n name w k P same es was g)
    (sym (looked_in n (bytes_eq name e.0) ((e.0, w) ∷ es) (e ∷ set_value (bytes_eq name) es w)) ∙ h)

ways_behind : (setting : Setting) (words : List Word) (items : List Item) (known : List Way) (way : Way) → AreWaysOf setting words items known → IsWay setting words items way
    → AreWaysOf setting words items (known ++ way ∷ [])
ways_behind setting words items [] way are is = (is, tt)
ways_behind setting words items (v ∷ known) way are is = (are.0, ways_behind setting words items known way are.1 is)

-- a further way of a name that has some
pub way_put : (setting : Setting) (words_of : List ℕ → List Word) (items : List Item) (es new : List (List ℕ × List Way)) (name : List ℕ) (was now : List Way) (way : Way)
    → Some was ≡ lookup (bytes_eq name) es → now ≡ was ++ way ∷ [] → new ≡ set_value (bytes_eq name) es now → AreWays setting words_of items es
    → IsWay setting (words_of name) items way → AreWays setting words_of items new
way_put setting words_of items es new name was now way old n put are is other known h =
    let here : AreWaysOf setting (words_of name) items now =
    subst (AreWaysOf setting (words_of name) items) (sym n) (ways_behind setting (words_of name) items was way (are name was (sym old)) is) in
    known_set other name now known (AreWaysOf setting (words_of other) items known)
    (λ s v. subst (λ l. AreWaysOf setting (words_of l) items known) (sym s) (subst (AreWaysOf setting (words_of name) items) v here))
    es (are other known) (ap (lookup (bytes_eq other)) (sym put) ∙ h)

first_at : (P : Type 0) (w k : List Way) (r : Option (List Way)) (b : Bool) → (b ≡ true → w ≡ k → P) → (r ≡ Some k → P) → cond b (Some w) r ≡ Some k → P
first_at P w k r true same was h = same refl (some_same w k h)
first_at P w k r false same was h = was h

-- the first way of a name
pub way_first : (setting : Setting) (words_of : List ℕ → List Word) (items : List Item) (es left new : List (List ℕ × List Way)) (name key : List ℕ) (now : List Way) (way : Way)
    → left ≡ es → key ≡ name → now ≡ way ∷ [] → ((other : List ℕ) → lookup (bytes_eq other) new ≡ cond (bytes_eq key other) (Some now) (lookup (bytes_eq other) left))
    → AreWays setting words_of items es → IsWay setting (words_of name) items way → AreWays setting words_of items new
way_first setting words_of items es left new name key now way l k n put are is other known h =
    let here : AreWaysOf setting (words_of name) items now = subst (AreWaysOf setting (words_of name) items) (sym n) (is, tt) in
    first_at (AreWaysOf setting (words_of other) items known) now known (lookup (bytes_eq other) es) (bytes_eq key other)
    (λ b v. subst (λ m. AreWaysOf setting (words_of m) items known) (sym k ∙ (bytes_eq-Decides key other).0 b) (subst (AreWaysOf setting (words_of name) items) v here))
    (are other known) (ap (λ es'. cond (bytes_eq key other) (Some now) (lookup (bytes_eq other) es')) (sym l) ∙ sym (put other) ∙ h)

-- words whose way is noted
pub way_learned : (setting : Setting) (words_of : List ℕ → List Word) (rest : List Word) (n : ℕ) (d e : ValueDraft) (es new : List (List ℕ × List Way)) (name : List ℕ) (way : Way)
    → within setting (take n rest) d ≡ Some e → n ≡ length rest → way.start ≡ spot_of d → way.end ≡ spot_of e → way.from ≡ length d.items
    → way.count ≡ length e.items - way.from
    → (AreWays setting words_of e.items es → IsWay setting (words_of name) e.items way → AreWays setting words_of e.items new)
    → drop way.skipped (words_of name) ≡ rest → AreWays setting words_of d.items es → AreWays setting words_of e.items new
way_learned setting words_of rest n d e es new name way h k s t f c put r are =
    let all : within setting rest d ≡ Some e = ap (λ l. within setting l d) (sym (take_all n rest (omega arith))) ∙ h in
    put (ways_grown setting words_of rest d e es all are) (way_found setting (words_of name) rest way d e all r s t f c)

-- Ways that are looked for

abbrev pub WayFound : Option Way → ℕ → Spot → (Way → Type 0) → Type 0
WayFound o skipped start is = IfSome o (λ way. (way.skipped ≡ skipped) × (way.start ≡ start) × is way)

found_as : (o : Option Way) (skipped : ℕ) (start : Spot) (P Q : Way → Type 0) → ((way : Way) → P way → Q way) → WayFound o skipped start P → WayFound o skipped start Q
found_as (Some way) skipped start P Q f h = (h.0, h.1, f way h.2)
found_as None skipped start P Q f h = tt

pub found_behind : (o : Option Way) (skipped : ℕ) (start : Spot) (known : List Way) (way : Way) (rest : List Way) → known ≡ way ∷ rest
    → WayFound o skipped start (λ w. (setting : Setting) (words : List Word) (items : List Item) → AreWaysOf setting words items rest → IsWay setting words items w)
    → WayFound o skipped start (λ w. (setting : Setting) (words : List Word) (items : List Item) → AreWaysOf setting words items known → IsWay setting words items w)
found_behind o skipped start known way rest e h =
    found_as o skipped start _ _ (λ w f setting words items are. f setting words items (subst (AreWaysOf setting words items) e are).1) h

pub found_named : (o : Option Way) (skipped : ℕ) (start : Spot) (known shown : List Way) (es : List (List ℕ × List Way)) (name : List ℕ) → Some known ≡ lookup (bytes_eq name) es
    → shown ≡ known
    → WayFound o skipped start (λ w. (setting : Setting) (words : List Word) (items : List Item) → AreWaysOf setting words items shown → IsWay setting words items w)
    → WayFound o skipped start (λ w. (setting : Setting) (words_of : List ℕ → List Word) (items : List Item) → AreWays setting words_of items es → IsWay setting (words_of name) items w)
found_named o skipped start known shown es name here s h =
    found_as o skipped start _ _
    (λ w f setting words_of items are. f setting (words_of name) items (subst (AreWaysOf setting (words_of name) items) (sym s) (are name known (sym here)))) h

-- Nothing is known

none_there : (setting : Setting) (words_of : List ℕ → List Word) (items : List Item) (entries : List (List ℕ × List Way)) → entries ≡ [] → AreWays setting words_of items entries
none_there setting words_of items entries none name known h = none_some known (sym (ap (lookup (bytes_eq name)) none) ∙ h)

pub nothing_known : (setting : Setting) (macros : List Macro) (items : List Item) (uses : KnownUses) → uses.wholes.ways.entries ≡ [] → uses.fronts.ways.entries ≡ []
    → AreUses setting macros items uses
nothing_known setting macros items uses w f = (
  none_there setting (words_named macros) items uses.wholes.ways.entries w,
  none_there setting (front_named macros) items uses.fronts.ways.entries f,
)
