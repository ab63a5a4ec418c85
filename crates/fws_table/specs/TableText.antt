-- The text of a table: a line that counts its rows, then a line for each path of the tree.
use Rattle.std.specs.Prelude.{ℕ, ◌+◌, ◌-◌, Bool, false, ◌&&◌, nat_eq, nat_lt, Option, Some, None, slice_get, List, [], ◌∷◌, ◌++◌, length, take, map, codes, if◌then◌else◌}
use Rattle.std.specs.Fmt.{decimal}
use Rattle.std.specs.List.{flat_map, join_with_byte, range_with_len}
use Rattle.std.specs.Option.{option_map_or}
use Rattle.fws_num.specs.Numbers.{dotted}
use Rattle.fws_iv.specs.declared.iv.Iv.{Iv}
use Rattle.fws_net.specs.declared.outcome.End.{End}
use Rattle.fws_net.specs.declared.outcome.Outcome.{Outcome}
use Rattle.fws_net.specs.declared.outcome.Outcome.TheVariants.{Drop, Accept}
use Rattle.fws_net.specs.declared.packet.State.{State}
use Rattle.fws_net.specs.declared.packet.State.TheVariants.{Fresh, Est}
use Rattle.fws_net.specs.declared.site.Site.{Site}
use Rattle.fws_net.specs.Points.{tops_of}
use Rattle.fws_tree.specs.declared.row.Row.{Row}
use Rattle.fws_tree.specs.Plain.{Plain}
use Rattle.fws_tree.specs.Rows.{paths_of}
use Rattle.fws_table.specs.declared.field.Kind.{Kind}
use Rattle.fws_table.specs.declared.field.Kind.TheVariants.{Entry, Number, Address}

-- the kind of each field: entry, proto, dst, dport, src, sport, flags, icmp, rdst, rdport, rsrc, rsport
abbrev pub field_kinds : List Kind
field_kinds = Entry ∷ Number ∷ Address ∷ Number ∷ Address ∷ Number ∷ Number ∷ Number ∷ Address ∷ Number ∷ Address ∷ Number ∷ []

-- an entry by its name in the site
abbrev pub entry_name : Site → ℕ → List ℕ
entry_name site entry =
    if nat_eq entry 0 then codes "host"
    else if nat_eq entry 1 then codes "lo"
    else option_map_or (λ face. face.name) (slice_get site.faces (entry - 2)) []

-- a value, or the least and the greatest with a dash between
abbrev pub range_text : (ℕ → List ℕ) → Iv → List ℕ
range_text spell i = if nat_eq i.lo i.hi then spell i.lo else spell i.lo ++ 45 ∷ spell i.hi

-- what an interval is written as: entries one by one with commas between, other values as a range
abbrev pub part_text : Site → Kind → Iv → List ℕ
part_text site Entry i = join_with_byte 44 (map (entry_name site) (range_with_len i.lo (i.hi - i.lo + 1)))
part_text site Number i = range_text decimal i
part_text site Address i = range_text dotted i

-- the one interval of the whole range
abbrev pub is_whole : ℕ → List Iv → Bool
is_whole top [] = false
is_whole top (i ∷ []) = nat_eq i.lo 0 && nat_eq i.hi top
is_whole top (i ∷ j ∷ is) = false

-- the word of a field: `*` for the whole range, else its intervals with commas between
abbrev pub side_text : Site → Kind → ℕ → List Iv → List ℕ
side_text site kind top is = if is_whole top is then codes "*" else join_with_byte 44 (map (part_text site kind) is)

-- the words of the fields, in their order
abbrev pub side_texts : Site → List Kind → List ℕ → List (List Iv) → List (List ℕ)
side_texts site [] tops sides = []
side_texts site (kind ∷ kinds) [] sides = []
side_texts site (kind ∷ kinds) (top ∷ tops) [] = []
side_texts site (kind ∷ kinds) (top ∷ tops) (side ∷ sides) = side_text site kind top side ∷ side_texts site kinds tops sides

-- how an end goes on behind its address: a length below 32, or a port if it has one
abbrev pub end_rest : End → List ℕ
end_rest e = if nat_lt e.len 32 then 47 ∷ decimal e.len else option_map_or (λ port. 58 ∷ decimal port) e.port []

abbrev pub end_text : End → List ℕ
end_text e = dotted e.addr ++ end_rest e

-- an end that is written, behind its front
abbrev pub written_text : List ℕ → Option End → List ℕ
written_text front None = []
written_text front (Some e) = front ++ end_text e

abbrev pub outcome_text : Outcome → List ℕ
outcome_text Drop = codes "drop"
outcome_text (Accept w) = codes "accept" ++ written_text (codes " src=") w.src ++ written_text (codes " dst=") w.dst

-- a new packet has eight fields, an established one twelve
abbrev pub shown_fields : State → ℕ
shown_fields Fresh = 8
shown_fields Est = 12

abbrev pub state_text : State → List ℕ
state_text Fresh = codes "new"
state_text Est = codes "est"

-- a line of the table
abbrev pub row_text : Site → State → Row Outcome → List ℕ
row_text site state row =
    join_with_byte 32 (take (shown_fields state) (side_texts site field_kinds (tops_of site) row.sides))
    ++ codes " : " ++ outcome_text row.leaf ++ 10 ∷ []

-- the line that begins with the title and tells how many rows come behind it
abbrev pub head_text : List ℕ → State → ℕ → List ℕ
head_text title state count = title ++ 32 ∷ state_text state ++ 32 ∷ decimal count ++ 10 ∷ []

-- the rows, behind a line that begins with the title and counts them
abbrev pub rows_text : List ℕ → Site → State → List (Row Outcome) → List ℕ
rows_text title site state rows = head_text title state (length rows) ++ flat_map (row_text site state) rows

-- the text of the table of a tree
abbrev pub table_text : Site → State → Plain Outcome → List ℕ
table_text site state t = rows_text (codes "table") site state (paths_of (tops_of site) t)
