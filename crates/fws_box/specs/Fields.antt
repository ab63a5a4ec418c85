-- The fields of a point.
use Rattle.std.specs.Prelude.{ℕ, List, slice_index}
use Rattle.fws_box.specs.declared.field.Field.{Field}
use Rattle.fws_box.specs.declared.field.Field.TheVariants.{Entry, Proto, Dst, Dport, Src, Sport, Flags, Icmp, SentDst, SentDport, SentSrc, SentSport}

-- the place of a field's value in a point, and of its set in a box
abbrev pub place_of : Field → ℕ
place_of Entry = 0
place_of Proto = 1
place_of Dst = 2
place_of Dport = 3
place_of Src = 4
place_of Sport = 5
place_of Flags = 6
place_of Icmp = 7
place_of SentDst = 8
place_of SentDport = 9
place_of SentSrc = 10
place_of SentSport = 11

-- the value of a field at a point
abbrev pub value_of : List ℕ → Field → ℕ
value_of p f = slice_index p (place_of f)
