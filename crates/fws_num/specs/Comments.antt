-- Comments, as each kind of text has them.
use Rattle.std.specs.Prelude.{ℕ, Bool, true, false, ◌||◌, ◌&&◌, nat_eq, List, [], ◌∷◌, codes, if◌then◌else◌}
use Rattle.std.specs.List.{list_any}
use Rattle.fws_num.specs.declared.comments.Comments.{Comments}
use Rattle.fws_num.specs.declared.comments.Comments.TheVariants.{HashLine, Pf, Ipfw, Ios}
use Rattle.fws_num.specs.declared.word.Mode.{Mode}
use Rattle.fws_num.specs.declared.word.Mode.TheVariants.{Between, Plain, Quoted, Escaped}
use Rattle.fws_num.specs.Words.{is_blank}

-- a line whose first byte that isn't blank is `#`
abbrev pub is_hash_comment : List ℕ → Bool
is_hash_comment [] = false
is_hash_comment (c ∷ cs) = if is_blank c then is_hash_comment cs else nat_eq c 35

-- a line whose first byte is `!`
abbrev pub is_exclamation : List ℕ → Bool
is_exclamation [] = false
is_exclamation (c ∷ cs) = nat_eq c 33

-- a byte that stands as a word of its own in pf.conf(5), or begins one
abbrev pub is_punctuation : ℕ → Bool
is_punctuation c = list_any (nat_eq c) (codes "{}()<>,=!")

-- behind this byte a word may begin
abbrev pub divides : Comments → ℕ → Bool
divides Pf c = is_blank c || is_punctuation c
divides _ c = is_blank c

-- where a reader is behind a byte: a quote opens where a word may begin
abbrev pub mode_behind : Comments → Mode → ℕ → Mode
mode_behind kind Between c = if divides kind c then Between else if nat_eq c 34 then Quoted else Plain
mode_behind kind Plain c = if divides kind c then Between else Plain
mode_behind kind Quoted c = if nat_eq c 34 then Between else if nat_eq c 92 then Escaped else Quoted
mode_behind kind Escaped c = Quoted

abbrev pub begins_slashes : List ℕ → Bool
begins_slashes (a ∷ b ∷ cs) = nat_eq a 47 && nat_eq b 47
begins_slashes _ = false

abbrev pub begins_hash : List ℕ → Bool
begins_hash [] = false
begins_hash (c ∷ cs) = nat_eq c 35

-- the bytes begin with the mark of a comment: `#`, in ipfw(8) also `//`
abbrev pub begins_mark : Comments → List ℕ → Bool
begins_mark Ipfw bytes = begins_hash bytes || begins_slashes bytes
begins_mark _ bytes = begins_hash bytes

-- outside quotes, where alone a comment begins
abbrev pub is_outside : Mode → Bool
is_outside Quoted = false
is_outside Escaped = false
is_outside _ = true

-- the bytes ahead of the comment, from a place of this mode on
abbrev pub ahead_from : Comments → Mode → List ℕ → List ℕ
ahead_from kind mode [] = []
ahead_from kind mode (c ∷ cs) =
    if is_outside mode && begins_mark kind (c ∷ cs) then [] else c ∷ ahead_from kind (mode_behind kind mode c) cs

-- what stands ahead of a line's comment
abbrev pub uncommented : Comments → List ℕ → List ℕ
uncommented HashLine line = if is_hash_comment line then [] else line
uncommented Ios line = if is_exclamation line then [] else line
uncommented Pf line = ahead_from Pf Between line
uncommented Ipfw line = ahead_from Ipfw Between line
