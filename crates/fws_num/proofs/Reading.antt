-- A word that ends.
use Rattle.std.proofs.Common.{◌≡◌, ℕ, true, List, [], ◌∷◌, ◌++◌, append_assoc}
use Rattle.fws_num.specs.declared.word.Mode.TheVariants.{Between, Plain, Quoted}
use Rattle.fws_num.specs.declared.word.Reader.{Reader}
use Rattle.fws_num.specs.Words.{is_blank, plain_word, quoted_word, words_ahead, words_from}

pub plain_ended : (old new : Reader) (c : ℕ) (rest : List ℕ) → old.mode ≡ Plain → is_blank c ≡ true
    → new.words.items ≡ old.words.items ++ plain_word old.line old.text ∷ [] → new.mode ≡ Between → new.text ≡ [] → new.line ≡ old.line
    → words_ahead new rest ≡ words_ahead old (c ∷ rest)
plain_ended old new c rest m b w n t l =
    rw (w, n, t, l, m, b) (append_assoc old.words.items (plain_word old.line old.text ∷ []) (words_from old.line Between [] rest))

pub quoted_ended : (old new : Reader) (c : ℕ) (rest : List ℕ) → old.mode ≡ Quoted → c ≡ 34
    → new.words.items ≡ old.words.items ++ quoted_word old.line old.text ∷ [] → new.mode ≡ Between → new.text ≡ [] → new.line ≡ old.line
    → words_ahead new rest ≡ words_ahead old (c ∷ rest)
quoted_ended old new c rest m e w n t l =
    rw (w, n, t, l, m, e) (append_assoc old.words.items (quoted_word old.line old.text ∷ []) (words_from old.line Between [] rest))
