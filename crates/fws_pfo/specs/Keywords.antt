-- The words of statements (pf.conf(5) of OpenBSD): those of FreeBSD's pf, but for these.
use Rattle.std.specs.Prelude.{ℕ, Bool, ◌||◌, Option, List, [], ◌∷◌, codes, if◌then◌else◌}
use Rattle.std.specs.List.{list_any}
use Rattle.std.specs.Str.{bytes_eq}
use Rattle.fws_num.specs.Named.{named_in}
use Rattle.fws_net.specs.declared.cause.Cause.{Cause}
use Rattle.fws_net.specs.declared.cause.Cause.TheVariants.{Syntax, LeftOut}
use Rattle.fws_pf.specs.Keywords.{misplaced as pf_misplaced}
use Rattle.fws_pfo.specs.declared.config.PfoKind.{PfoKind}
use Rattle.fws_pfo.specs.declared.config.PfoKind.TheVariants as kinds

-- words with which rules begin
abbrev pub action_words : List (List ℕ × PfoKind)
action_words = (codes "pass", kinds.Pass) ∷ (codes "block", kinds.Block) ∷ (codes "match", kinds.Match) ∷ []

unfoldable pub action_word : List ℕ → Option PfoKind
action_word text = named_in action_words text

-- keywords that FreeBSD's pf lacks
abbrev pub added_words : List (List ℕ)
added_words = codes "match" ∷ codes "nat-to" ∷ codes "rdr-to" ∷ []

unfoldable pub is_added_word : List ℕ → Bool
is_added_word text = list_any (bytes_eq text) added_words

-- keywords of FreeBSD's pf that are left out here
abbrev pub lacked_words : List (List ℕ)
lacked_words = codes "rdr" ∷ codes "nat" ∷ []

unfoldable pub is_lacked_word : List ℕ → Bool
is_lacked_word text = list_any (bytes_eq text) lacked_words

-- a keyword of one dialect alone
abbrev pub is_different : List ℕ → Bool
is_different text = is_added_word text || is_lacked_word text

-- why a word is refused that stands where a keyword may stand, and isn't one of those that may
abbrev pub misplaced : List ℕ → Cause
misplaced text = if is_added_word text then Syntax else if is_lacked_word text then LeftOut else pf_misplaced text
