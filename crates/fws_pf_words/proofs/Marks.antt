-- Punctuation.
use Rattle.std.proofs.Common.{◌≡◌, ℕ, ◌||◌, true, false, List, [], ◌∷◌, refl, ap}
use Rattle.std.specs.List.{list_any}
use Rattle.std.specs.Str.{bytes_eq}
use Rattle.fws_num.specs.declared.word.Word.{Word}
use Rattle.fws_pf.specs.Statements.{is_mark}

pub quoted_none : (w : Word) (texts : List (List ℕ)) → w.quoted ≡ true → false ≡ list_any (is_mark w) texts
quoted_none w [] e = refl
quoted_none w (t ∷ ts) e = rw e (quoted_none w ts e)

pub plain_any : (w : Word) (texts : List (List ℕ)) → w.quoted ≡ false → list_any (bytes_eq w.text) texts ≡ list_any (is_mark w) texts
plain_any w [] e = refl
plain_any w (t ∷ ts) e = rw e (ap (λ b. bytes_eq w.text t || b) (plain_any w ts e))
