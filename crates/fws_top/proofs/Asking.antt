-- The items of a set by its first comma.
use Rattle.std.proofs.Common.{◌≡◌, ℕ, Bool, true, false, cond, nat_eq, Option, Some, None, List, [], ◌∷◌, ◌++◌, ◌&&◌, append_assoc, ap, sym, ◌∙◌, refl}
use Rattle.std.proofs.lemmas.List.{append-nil}
use Rattle.std.specs.List.{list_all}
use Rattle.std.specs.Option.{option_map}
use Rattle.fws_num.specs.Numbers.{split_once}
use Rattle.fws_num.specs.Pieces.{pieces_from}
use Rattle.fws_top.specs.Asks.{items_of}

-- the pieces that a first part and the text behind it make
abbrev pub pieces_at : ℕ → List ℕ → List ℕ → Option (List ℕ × List ℕ) → List (List ℕ)
pieces_at byte piece text None = (piece ++ text) ∷ []
pieces_at byte piece text (Some parts) = (piece ++ parts.0) ∷ pieces_from byte [] parts.1

pieces_at-more : (byte : ℕ) (piece : List ℕ) (c : ℕ) (cs : List ℕ) (o : Option (List ℕ × List ℕ))
    → pieces_at byte (piece ++ c ∷ []) cs o ≡ pieces_at byte piece (c ∷ cs) (option_map (λ parts. (c ∷ parts.0, parts.1)) o)
pieces_at-more byte piece c cs None = ap (λ l. l ∷ []) (append_assoc piece (c ∷ []) cs)
pieces_at-more byte piece c cs (Some parts) = ap (λ l. l ∷ pieces_from byte [] parts.1) (append_assoc piece (c ∷ []) parts.0)

pieces_from-byte : (b : Bool) (byte : ℕ) (piece : List ℕ) (c : ℕ) (cs : List ℕ)
    → pieces_from byte (piece ++ c ∷ []) cs ≡ pieces_at byte (piece ++ c ∷ []) cs (split_once byte cs)
    → cond b (piece ∷ pieces_from byte [] cs) (pieces_from byte (piece ++ c ∷ []) cs)
    ≡ pieces_at byte piece (c ∷ cs) (cond b (Some ([], cs)) (option_map (λ parts. (c ∷ parts.0, parts.1)) (split_once byte cs)))
pieces_from-byte true byte piece c cs h = ap (λ l. l ∷ pieces_from byte [] cs) (sym (append-nil piece))
pieces_from-byte false byte piece c cs h = h ∙ pieces_at-more byte piece c cs (split_once byte cs)

pub pieces_from-split : (byte : ℕ) (piece text : List ℕ) → pieces_from byte piece text ≡ pieces_at byte piece text (split_once byte text)
pieces_from-split byte piece [] = ap (λ l. l ∷ []) (sym (append-nil piece))
pieces_from-split byte piece (c ∷ cs) = pieces_from-byte (nat_eq c byte) byte piece c cs (pieces_from-split byte (piece ++ c ∷ []) cs)

pub items_of-more : (set before behind : List ℕ) → split_once 44 set ≡ Some (before, behind) → items_of set ≡ before ∷ items_of behind
items_of-more set before behind h = pieces_from-split 44 [] set ∙ ap (pieces_at 44 [] set) h

pub items_of-last : (set : List ℕ) → split_once 44 set ≡ None → items_of set ≡ set ∷ []
items_of-last set h = pieces_from-split 44 [] set ∙ ap (pieces_at 44 [] set) h

pub item_passed : (f : List ℕ → Bool) (rest before behind : List ℕ) (all : Bool) → split_once 44 rest ≡ Some (before, behind) → f before ≡ true
    → list_all f (items_of rest) ≡ all → list_all f (items_of behind) ≡ all
item_passed f rest before behind all s t h = go (f before) (list_all f (items_of behind)) t ∙ sym (ap (list_all f) (items_of-more rest before behind s)) ∙ h
  where
    go : (a b : Bool) → a ≡ true → b ≡ (a && b)
    go true b e = refl
    go false b e = absurd (cc)

pub item_failed : (f : List ℕ → Bool) (rest before behind : List ℕ) (all : Bool) → split_once 44 rest ≡ Some (before, behind) → f before ≡ false
    → list_all f (items_of rest) ≡ all → false ≡ all
item_failed f rest before behind all s t h = go (f before) (list_all f (items_of behind)) t ∙ sym (ap (list_all f) (items_of-more rest before behind s)) ∙ h
  where
    go : (a b : Bool) → a ≡ false → false ≡ (a && b)
    go true b e = absurd (cc)
    go false b e = refl

pub item_last : (f : List ℕ → Bool) (rest : List ℕ) (all : Bool) → split_once 44 rest ≡ None → list_all f (items_of rest) ≡ all → f rest ≡ all
item_last f rest all s h = go (f rest) ∙ sym (ap (list_all f) (items_of-last rest s)) ∙ h
  where
    go : (a : Bool) → a ≡ (a && true)
    go true = refl
    go false = refl
