-- Lists in chunks.
use Rattle.std.proofs.Common.{◌≡◌, ℕ, zero, suc, ◌+◌, ◌<◌, ◌≤◌, List, [], ◌∷◌, ◌++◌, length, get_or, set, take, drop, refl, sym, ◌∙◌, ap, arith, length-append}
use Rattle.std.proofs.lemmas.List.{append-nil, append_assoc, take-append-le, drop-append-le}
use Rattle.std.proofs.lemmas.List.Concat.{flat_map-append}
use Rattle.std.specs.List.{remove}
use Rattle.fws_events.specs.Listing.{joined}
use Rattle.fws_net.specs.declared.connection.Conn.{Conn}

remove_left : (c ys : List Conn) (j : ℕ) → j < length c → remove (c ++ ys) j ≡ remove c j ++ ys
remove_left c ys j lt =
    let le : j ≤ length c = omega arith in
    ap (λ (xs : List Conn). xs ++ drop (suc j) (c ++ ys)) (take-append-le j c ys le) ∙ ap (λ (xs : List Conn). take j c ++ xs) (drop-append-le (suc j) c ys lt)
    ∙ sym (append_assoc (take j c) (drop (suc j) c) ys)

remove_right : (c ys : List Conn) (m n : ℕ) → n ≡ length c + m → remove (c ++ ys) n ≡ c ++ remove ys m
remove_right [] ys m n e = let same : n ≡ m = omega arith in ap (λ (k : ℕ). remove ys k) same
remove_right (x ∷ c) ys m zero e = absurd (omega arith)
remove_right (x ∷ c) ys m (suc n) e = let same : n ≡ length c + m = omega arith in ap (λ (xs : List Conn). x ∷ xs) (remove_right c ys m n same)

-- an entry that is taken out of its chunk is taken out of the list
pub taken_there : (chunks : List (List Conn)) (at entry k : ℕ) → at < length chunks → entry < length (get_or chunks at []) → k ≡ length (joined (take at chunks)) + entry
    → joined (set chunks at (remove (get_or chunks at []) entry)) ≡ remove (joined chunks) k
taken_there [] at entry k lt in_chunk e = absurd (omega arith)
taken_there (c ∷ cs) zero entry k lt in_chunk e =
    let same : entry ≡ k = omega arith in
    sym (remove_left c (joined cs) entry in_chunk) ∙ ap (λ (n : ℕ). remove (c ++ joined cs) n) same
taken_there (c ∷ cs) (suc at) entry k lt in_chunk e =
    let below : at < length cs = omega arith in
    let from : ℕ = length (joined (take at cs)) + entry in
    let whole : k ≡ length c + from = omega (arith, length-append c (joined (take at cs))) in
    ap (λ (xs : List Conn). c ++ xs) (taken_there cs at entry from below in_chunk refl) ∙ sym (remove_right c (joined cs) from k whole)

-- a chunk without entries is left out without a difference
pub left_out_empty : (chunks : List (List Conn)) (at : ℕ) → at < length chunks → length (get_or chunks at []) ≡ 0 → joined (remove chunks at) ≡ joined chunks
left_out_empty [] at lt none = absurd (omega arith)
left_out_empty ([] ∷ cs) zero lt none = refl
left_out_empty ((x ∷ c) ∷ cs) zero lt none = absurd (omega arith)
left_out_empty (c ∷ cs) (suc at) lt none = let below : at < length cs = omega arith in ap (λ (xs : List Conn). c ++ xs) (left_out_empty cs at below none)

-- a further entry of the last chunk stands behind all others
pub put_behind : (chunks : List (List Conn)) (n : ℕ) (conn : Conn) → length chunks ≡ suc n → joined (set chunks n (get_or chunks n [] ++ conn ∷ [])) ≡ joined chunks ++ conn ∷ []
put_behind [] n conn e = absurd (omega arith)
put_behind (c ∷ []) zero conn e = append-nil (c ++ conn ∷ []) ∙ ap (λ (xs : List Conn). xs ++ conn ∷ []) (sym (append-nil c))
put_behind (c ∷ d ∷ cs) zero conn e = absurd (omega arith)
put_behind (c ∷ []) (suc n) conn e = absurd (omega arith)
put_behind (c ∷ d ∷ cs) (suc n) conn e =
    let fewer : length (d ∷ cs) ≡ suc n = omega arith in
    ap (λ (xs : List Conn). c ++ xs) (put_behind (d ∷ cs) n conn fewer) ∙ sym (append_assoc c (joined (d ∷ cs)) (conn ∷ []))

-- so does a further chunk, which has none yet
pub with_empty : (chunks : List (List Conn)) → joined (chunks ++ [] ∷ []) ≡ joined chunks
with_empty chunks = flat_map-append (λ (chunk : List Conn). chunk) chunks ([] ∷ []) ∙ append-nil (joined chunks)

-- the last entry is taken out again
pub taken_again : (xs : List Conn) (conn : Conn) → remove (xs ++ conn ∷ []) (length xs) ≡ xs
taken_again [] conn = refl
taken_again (x ∷ xs) conn = ap (λ (ys : List Conn). x ∷ ys) (taken_again xs conn)

-- a list without an entry is shorter by one
pub one_fewer : (xs : List Conn) (k : ℕ) → k < length xs → length xs ≡ suc (length (remove xs k))
one_fewer [] k lt = absurd (omega arith)
one_fewer (x ∷ xs) zero lt = refl
one_fewer (x ∷ xs) (suc k) lt = let below : k < length xs = omega arith in ap suc (one_fewer xs k below)
