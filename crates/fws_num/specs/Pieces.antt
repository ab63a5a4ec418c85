-- The pieces of a text between bytes that divide it.
use Rattle.std.specs.Prelude.{◌≡◌, ℕ, true, nat_eq, List, [], ◌∷◌, ◌++◌, if◌then◌else◌}
use Rattle.std.specs.List.{list_all, join_with_byte}
use Rattle.fws_num.specs.Numbers.{lacks}

-- the pieces from here on, of which the current one has begun with the bytes
abbrev pub pieces_from : ℕ → List ℕ → List ℕ → List (List ℕ)
pieces_from byte piece [] = piece ∷ []
pieces_from byte piece (c ∷ cs) = if nat_eq c byte then piece ∷ pieces_from byte [] cs else pieces_from byte (piece ++ c ∷ []) cs

-- the pieces between the bytes, one more than there are such bytes
abbrev pub pieces_of : ℕ → List ℕ → List (List ℕ)
pieces_of byte text = pieces_from byte [] text

-- the pieces lack the byte, and with it between them they are the text
abbrev pub PiecesAreJoined : Type 0
PiecesAreJoined = (byte : ℕ) (text : List ℕ) → (join_with_byte byte (pieces_of byte text) ≡ text) × (list_all (lacks byte) (pieces_of byte text) ≡ true)

-- pieces that lack the byte are what a text of them is divided into
abbrev pub JoinedAreDivided : Type 0
JoinedAreDivided = (byte : ℕ) (p : List ℕ) (ps : List (List ℕ)) → list_all (lacks byte) (p ∷ ps) ≡ true
    → pieces_of byte (join_with_byte byte (p ∷ ps)) ≡ p ∷ ps
