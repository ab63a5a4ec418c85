-- The sets of values that are asked for, and sides that are narrowed to them.
use Rattle.std.proofs.Common.{◌≡◌, ℕ, zero, suc, ◌≤◌, ◌<◌, ◌+◌, Bool, true, false, ◌&&◌, ◌||◌, Some, None, List, [], ◌∷◌, length, get_or, set, ap, sym, ◌∙◌, refl, arith}
use Rattle.std.specs.Prelude.{nat_le, nat_lt, codes}
use Rattle.std.proofs.lemmas.Bool.Decides.{nat_tests}
use Rattle.std.specs.List.{list_any}
use Rattle.std.specs.Str.{bytes_eq}
use Rattle.fws_iv.specs.declared.iv.Iv.{Iv}
use Rattle.fws_iv.specs.Ivs.{has}
use Rattle.fws_net.specs.declared.site.Site.{Site}
use Rattle.fws_net.specs.Points.{tops_of}
use Rattle.fws_num.specs.Numbers.{split_once}
use Rattle.fws_box.specs.Sides.{sides_have}
use Rattle.fws_top.specs.Asks.{items_of, number_of, item_has, set_has, HasValues, AreNarrowed}
use Rattle.fws_top.specs.declared.ask.Subject.{Subject}
use Rattle.fws_top.proofs.Asking.{items_of-more, items_of-last}
use Rattle.fws_top.proofs.Points.{within_at, within-length}

-- one more number was tried, and passes
pub tried_put : (f : ℕ → Bool) (old new : List Iv) (n : ℕ) → f n ≡ true → ((v : ℕ) → has new v ≡ (has old v || (nat_le n v && nat_le v n)))
    → ((v : ℕ) → has old v ≡ (nat_lt v n && f v)) → (v : ℕ) → has new v ≡ (nat_lt v (n + 1) && f v)
tried_put f old new n t h so_far v = h v ∙ ap (λ b. b || (nat_le n v && nat_le v n)) (so_far v) ∙ at v
  where
    at : (v : ℕ) → ((nat_lt v n && f v) || (nat_le n v && nat_le v n)) ≡ (nat_lt v (n + 1) && f v)
    at v = grind (arith, nat_tests, t)

-- one more number was tried, and does not pass
pub tried_over : (f : ℕ → Bool) (old : List Iv) (n : ℕ) → f n ≡ false → ((v : ℕ) → has old v ≡ (nat_lt v n && f v)) → (v : ℕ) → has old v ≡ (nat_lt v (n + 1) && f v)
tried_over f old n t so_far v = so_far v ∙ at v
  where
    at : (v : ℕ) → (nat_lt v n && f v) ≡ (nat_lt v (n + 1) && f v)
    at v = grind (arith, nat_tests, t)

-- the values of one more item
pub item_joined : (f : List ℕ → Bool) (rest before behind : List ℕ) (had more joined all : Bool) → split_once 44 rest ≡ Some (before, behind) → more ≡ f before
    → joined ≡ (had || more) → (had || list_any f (items_of rest)) ≡ all → (joined || list_any f (items_of behind)) ≡ all
item_joined f rest before behind had more joined all s m j h =
    ap (λ b. b || list_any f (items_of behind)) (j ∙ ap (λ b. had || b) m) ∙ go had (f before) (list_any f (items_of behind))
    ∙ sym (ap (λ items. had || list_any f items) (items_of-more rest before behind s)) ∙ h
  where
    go : (a b c : Bool) → ((a || b) || c) ≡ (a || (b || c))
    go true b c = refl
    go false b c = refl

-- the values of the last item
pub last_joined : (f : List ℕ → Bool) (rest : List ℕ) (had more joined all : Bool) → split_once 44 rest ≡ None → more ≡ f rest
    → joined ≡ (had || more) → (had || list_any f (items_of rest)) ≡ all → joined ≡ all
last_joined f rest had more joined all s m j h =
    j ∙ ap (λ b. had || b) (m ∙ go (f rest)) ∙ sym (ap (λ items. had || list_any f items) (items_of-last rest s)) ∙ h
  where
    go : (a : Bool) → a ≡ (a || false)
    go true = refl
    go false = refl

-- a side that was narrowed
sides_have-narrowed : (sides : List (List Iv)) (p : List ℕ) (k : ℕ) (d new : List Iv) (passes : Bool) → k < length sides → k < length p
    → has new (get_or p k 0) ≡ (has (get_or sides k d) (get_or p k 0) && passes) → sides_have (set sides k new) p ≡ (sides_have sides p && passes)
sides_have-narrowed [] p k d new passes in_sides in_point h = absurd (omega arith)
sides_have-narrowed (t ∷ ts) [] k d new passes in_sides in_point h = absurd (omega arith)
sides_have-narrowed (t ∷ ts) (x ∷ p) zero d new passes in_sides in_point h = ap (λ b. b && sides_have ts p) h ∙ go (has t x) (sides_have ts p) passes
  where
    go : (a b c : Bool) → ((a && c) && b) ≡ ((a && b) && c)
    go true true true = refl
    go true true false = refl
    go true false true = refl
    go true false false = refl
    go false b c = refl
sides_have-narrowed (t ∷ ts) (x ∷ p) (suc k) d new passes in_sides in_point h =
    ap (λ b. has t x && b) (sides_have-narrowed ts p k d new passes (omega arith) (omega arith) h) ∙ go (has t x) (sides_have ts p) passes
  where
    go : (a b c : Bool) → (a && (b && c)) ≡ ((a && b) && c)
    go true b c = refl
    go false b c = refl

-- the side of a field keeps the values of its set
pub side_narrowed : (site : Site) (subject : Subject) (text : List ℕ) (sides : List (List Iv)) (field : ℕ) (d values new : List Iv) → length sides ≡ 12 → number_of subject < 12
    → field ≡ number_of subject → bytes_eq text (codes "*") ≡ false
    → HasValues site subject (λ x. list_any (λ item. item_has site subject item x) (items_of text)) values
    → ((v : ℕ) → has new v ≡ (has (get_or sides field d) v && has values v))
    → AreNarrowed site (λ p. set_has site subject text (get_or p (number_of subject) 0)) sides (set sides field new)
side_narrowed site subject text sides field d values new twelve small f star values_are new_is p w =
    let k = number_of subject in
    let x = get_or p k 0 in
    let any : Bool = list_any (λ item. item_has site subject item x) (items_of text) in
    let long : length p ≡ 12 = within-length (tops_of site) p w in
    let low : x ≤ get_or (tops_of site) k 0 = within_at (tops_of site) p k w small in
    let kept : has new x ≡ (has (get_or sides k d) x && any) = new_is x ∙ ap (λ n. has (get_or sides n d) x && has values x) f
    ∙ ap (λ b. has (get_or sides k d) x && b) (values_are x low) in
    ap (λ n. sides_have (set sides n new) p) f
    ∙ sides_have-narrowed sides p k d new any (omega arith) (omega arith) kept
    ∙ ap (λ b. sides_have sides p && (b || any)) (sym star)
