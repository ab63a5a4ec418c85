-- The lines that a command answers with where it has no table.
use Rattle.std.specs.Prelude.{ℕ, List, [], ◌∷◌, ◌++◌, codes}
use Rattle.std.specs.Fmt.{decimal}
use Rattle.fws_net.specs.declared.cause.Cause.{Cause}
use Rattle.fws_net.specs.declared.cause.Cause.TheVariants as causes
use Rattle.fws_net.specs.declared.cause.SiteCause.{SiteCause}
use Rattle.fws_net.specs.declared.cause.SiteCause.TheVariants.{Syntax, Overlap, Names, Count}

abbrev pub site_cause_text : SiteCause → List ℕ
site_cause_text Syntax = codes "syntax"
site_cause_text Overlap = codes "overlap"
site_cause_text Names = codes "names"
site_cause_text Count = codes "count"

abbrev pub cause_text : Cause → List ℕ
cause_text causes.Syntax = codes "syntax"
cause_text causes.LeftOut = codes "left-out"
cause_text causes.NoInterface = codes "no-interface"
cause_text causes.NoName = codes "no-name"
cause_text causes.Backward = codes "backward"
cause_text causes.Shape = codes "shape"
cause_text causes.Expand = codes "expand"

-- What is said of a refused file behind its name

abbrev pub too_long_words : List ℕ
too_long_words = codes "over 4194304 bytes"

-- a line of the file is refused for a cause
abbrev pub line_words : ℕ → List ℕ → List ℕ
line_words line cause = codes "line " ++ decimal line ++ 32 ∷ cause

-- a line of a list of connections or packets has no other cause
abbrev pub syntax_words : ℕ → List ℕ
syntax_words line = line_words line (codes "syntax")

-- a chain reaches itself, a path from it is too deep, or the rules become too many there
abbrev pub loop_words : List ℕ → List ℕ
loop_words chain = codes "loop " ++ chain

abbrev pub deep_words : List ℕ → List ℕ
deep_words chain = codes "deep " ++ chain

abbrev pub long_words : List ℕ → List ℕ
long_words chain = codes "long " ++ chain

-- Lines

-- the file with this name is refused with these words
abbrev pub refused_line : List ℕ → List ℕ → List ℕ
refused_line name words = codes "refused " ++ name ++ 32 ∷ words ++ 10 ∷ []

abbrev pub cannot_read_line : List ℕ → List ℕ
cannot_read_line name = codes "cannot read " ++ name ++ 10 ∷ []
