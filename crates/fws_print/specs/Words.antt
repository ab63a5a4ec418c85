-- Words that several systems write alike.
use Rattle.std.specs.Prelude.{ℕ, nat_eq, List, [], ◌∷◌, ◌++◌, codes, if◌then◌else◌}
use Rattle.std.specs.Fmt.{decimal}
use Rattle.std.specs.List.{flat_map, join_by}
use Rattle.fws_iv.specs.declared.iv.Iv.{Iv}

-- the words, each behind a blank
abbrev pub behind_blanks : List (List ℕ) → List ℕ
behind_blanks words = flat_map (λ word. 32 ∷ word) words

-- a protocol: by its name where it has ports or ICMP types, and else by its number
abbrev pub protocol_name : ℕ → List ℕ
protocol_name n =
    if nat_eq n 1 then codes "icmp" else if nat_eq n 6 then codes "tcp" else if nat_eq n 17 then codes "udp" else decimal n

-- a port, or two with a mark between
abbrev pub range_text : ℕ → Iv → List ℕ
range_text mark iv = if nat_eq iv.lo iv.hi then decimal iv.lo else decimal iv.lo ++ mark ∷ decimal iv.hi

-- the ranges joined by commas
abbrev pub ranges_text : ℕ → List Iv → List ℕ
ranges_text mark set = join_by (range_text mark) (44 ∷ []) set
