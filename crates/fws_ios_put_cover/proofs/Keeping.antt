-- Paths that are kept once.
use Rattle.std.proofs.Common.{◌≡◌, ℕ, suc, ◌<◌, length, Bool, true, false, ◌||◌, List, [], ◌∷◌, ◌++◌, ◌⊎◌, get_or, inl, inr, refl, sym, ◌∙◌, ap, subst, arith}
use Rattle.std.proofs.lemmas.Bool.{or_cases, cond-true, cond-false}
use Rattle.std.proofs.lemmas.List.Elements.{All-append}
use Rattle.std.proofs.lemmas.List.Folds.{list_any-append, list_any_at}
use Rattle.std.specs.List.{list_any}
use Rattle.std.specs.Prelude.{All, Contains, slice_index_or}
use Rattle.indexmap.specs.IndexSet.{insert_key}
use Rattle.fws_net.specs.declared.packet.Packet.{Packet}
use Rattle.fws_ios_put_entries.specs.declared.path.Path.{Path}
use Rattle.fws_ios_put_entries.specs.Paths.{path_has, some_path_has}
use Rattle.fws_ios_put_cover.specs.Exactly.{IsPut}
use Rattle.fws_ios_put_cover.specs.Steps.{AreKept, IsUsable}
use Rattle.fws_ios_put_cover.proofs.Stepping.{both_parts}

-- a key that is found is there
found : {X : Type 0} (eq : X → X → Bool) → ((x y : X) → eq x y ≡ true → x ≡ y) → (xs : List X) (x : X) → list_any (eq x) xs ≡ true → Contains xs x
found eq exact [] x h = absurd (cc)
found eq exact (y ∷ xs) x h = elim (or_cases (eq x y) (list_any (eq x) xs) h) [
  | inl e ↦ (0, omega arith, sym (exact x y e))
  | inr e ↦ (let r = found eq exact xs x e in (suc r.0, let lt : r.0 < length xs = r.1 in omega arith, r.2))
]

-- a key that was put behind others unless it was there
pub key_put : {X : Type 0} (eq : X → X → Bool) → ((x y : X) → eq x y ≡ true → x ≡ y) → (old new : List X) (x : X) → new ≡ insert_key eq old x → IsPut old new x
key_put eq exact old new x e = by (list_any (eq x) old) refl
  where
    by : (b : Bool) → list_any (eq x) old ≡ b → ((new ≡ old) × Contains old x) ⊎ (new ≡ old ++ x ∷ [])
    by true there = inl (e ∙ cond-true (list_any (eq x) old) old (old ++ x ∷ []) there, found eq exact old x there)
    by false absent = inr (e ∙ cond-false (list_any (eq x) old) old (old ++ x ∷ []) absent)

or_false : (b : Bool) → (b || false) ≡ b
or_false true = refl
or_false false = refl

pub none_kept : (keys : List Path) → AreKept keys keys []
none_kept keys = record {
  same = λ p. sym (or_false (some_path_has keys p));
  usable = λ established old further. old;
}

-- a path is kept with the others
put_has : (old new : List Path) (x : Path) (p : Packet) → IsPut old new x → some_path_has new p ≡ (some_path_has old p || path_has x p)
put_has old new x p (inl there) =
    ap (λ l. some_path_has l p) there.0
    ∙ absorbed (some_path_has old p) (path_has x p)
    (λ h. list_any_at (λ (y : Path). path_has y p) old there.1.0 x there.1.1 (subst (λ y. path_has y p ≡ true) (sym (same_item old there.1.0 x there.1.1 there.1.2)) h))
  where
    absorbed : (a b : Bool) → (b ≡ true → a ≡ true) → a ≡ (a || b)
    absorbed true b f = refl
    absorbed false true f = f refl
    absorbed false false f = refl

    same_item : (xs : List Path) (k : ℕ) (x : Path) → k < length xs → slice_index_or xs k x ≡ x → get_or xs k x ≡ x
    same_item xs k x lt e = e
put_has old new x p (inr behind) =
    ap (λ l. some_path_has l p) behind ∙ list_any-append (λ (y : Path). path_has y p) old (x ∷ []) ∙ ap (λ b. some_path_has old p || b) (or_false (path_has x p))

put_usable : (established : Bool) (old new : List Path) (x : Path) → IsPut old new x → All (IsUsable established) old → All (IsUsable established) (x ∷ []) → All (IsUsable established) new
put_usable established old new x (inl there) h one = subst (λ l. All (IsUsable established) l) (sym there.0) h
put_usable established old new x (inr behind) h one = subst (λ l. All (IsUsable established) l) (sym behind) (All-append (IsUsable established) old (x ∷ []) h one)

pub kept_more : (old keys new further : List Path) (x : Path) → IsPut keys new x → AreKept old keys further → AreKept old new (further ++ x ∷ [])
kept_more old keys new further x put h = record {
  same = λ p.
      put_has keys new x p put ∙ ap (λ b. b || path_has x p) (h.same p) ∙ grouped (some_path_has old p) (some_path_has further p) (path_has x p)
      ∙ ap (λ b. some_path_has old p || b) (sym (list_any-append (λ (y : Path). path_has y p) further (x ∷ [])));
  usable = λ established all more.
      let parts = both_parts (IsUsable established) further (x ∷ []) more in put_usable established keys new x put (h.usable established all parts.0) parts.1;
}
  where
    grouped : (a b c : Bool) → ((a || b) || c) ≡ (a || (b || (c || false)))
    grouped true b c = refl
    grouped false true c = refl
    grouped false false true = refl
    grouped false false false = refl
