-- A running configuration (Cisco IOS): its access lists and translations, or its first refused line with the cause.
use Rattle.std.specs.Prelude.{ℕ, Bool, true, false, ◌&&◌, ◌||◌, not, nat_eq, nat_le, Option, Some, None, is_some, Result, Ok, Err, List, [], ◌∷◌, ◌++◌, drop, filter, codes, if◌then◌else◌}
use Rattle.std.specs.Fmt.{decimal}
use Rattle.std.specs.List.{list_all, list_any}
use Rattle.std.specs.Option.{option_map_or}
use Rattle.std.specs.Str.{bytes_eq}
use Rattle.fws_iv.specs.declared.iv.Iv.{Iv}
use Rattle.fws_iv.specs.Ivs.{with_range}
use Rattle.fws_num.specs.declared.comments.Comments.TheVariants.{Ios as IosComments}
use Rattle.fws_num.specs.declared.lines.Line.{Line}
use Rattle.fws_num.specs.declared.word.Word.{Word}
use Rattle.fws_num.specs.Lines.{read_of}
use Rattle.fws_num.specs.Numbers.{dec_of, quad_of}
use Rattle.fws_num.specs.Words.{is_sound}
use Rattle.fws_net.specs.declared.cause.Cause.{Cause}
use Rattle.fws_net.specs.declared.cause.Cause.TheVariants.{Syntax, LeftOut, NoInterface}
use Rattle.fws_net.specs.declared.packet.Lang.TheVariants.{Ios}
use Rattle.fws_net.specs.declared.site.Site.{Site}
use Rattle.fws_net.specs.Causes.{judged}
use Rattle.fws_net.specs.Faces.{entry_named}
use Rattle.fws_net.specs.Reading.{Refusal, and_then, text_read}
use Rattle.fws_ios.specs.declared.config.IosConfig.{IosConfig}
use Rattle.fws_ios.specs.declared.config.IosEntry.{IosEntry}
use Rattle.fws_ios.specs.declared.config.IosGroup.{IosGroup}
use Rattle.fws_ios.specs.declared.config.IosList.{IosList}
use Rattle.fws_ios.specs.declared.config.IosNat.{IosNat}
use Rattle.fws_ios.specs.declared.draft.Block.{Block}
use Rattle.fws_ios.specs.declared.draft.Block.TheVariants as blocks
use Rattle.fws_ios.specs.declared.draft.IosDraft.{IosDraft}
use Rattle.fws_ios.specs.declared.draft.Marked.{Marked}
use Rattle.fws_ios.specs.declared.draft.Pool.{Pool}
use Rattle.fws_ios.specs.EntryText.{entry_of}
use Rattle.fws_ios.specs.Keywords.{is, misplaced}
use Rattle.fws_ios.specs.NatText.{nat_of, pool_checked, pool_named}
use Rattle.fws_ios.specs.Values.{is_number}

-- How a line begins

-- the word is this one, and can be judged
abbrev pub says : Word → List ℕ → Bool
says w text = bytes_eq w.text text && is_sound w

-- the line begins with these words
abbrev pub begins : List (List ℕ) → List Word → Bool
begins [] ws = true
begins (text ∷ texts) [] = false
begins (text ∷ texts) (w ∷ ws) = says w text && begins texts ws

abbrev pub begins_with_any : List (List (List ℕ)) → List Word → Bool
begins_with_any fronts ws = list_any (λ front. begins front ws) fronts

-- lines that are left out
abbrev pub left_out_lines : List (List (List ℕ))
left_out_lines =
    (codes "zone" ∷ []) ∷ (codes "zone-pair" ∷ []) ∷ (codes "class-map" ∷ []) ∷ (codes "policy-map" ∷ []) ∷
    (codes "ip" ∷ codes "inspect" ∷ []) ∷ (codes "ip" ∷ codes "nat" ∷ codes "outside" ∷ []) ∷ (codes "ipv6" ∷ codes "access-list" ∷ []) ∷ []

-- lines of interfaces that are left out
abbrev pub left_out_at_interfaces : List (List (List ℕ))
left_out_at_interfaces =
    (codes "ip" ∷ codes "inspect" ∷ []) ∷ (codes "ip" ∷ codes "policy" ∷ []) ∷ (codes "ip" ∷ codes "verify" ∷ []) ∷ (codes "zone-member" ∷ []) ∷
    (codes "crypto" ∷ codes "map" ∷ []) ∷ []

-- no word stands behind
abbrev pub alone : {A : Type 0} → A → List Word → Result A Cause
alone x [] = Ok x
alone x (w ∷ ws) = Err Syntax

-- what lines belong to from here on that begin with a blank
abbrev pub in_block : Block → IosDraft → IosDraft
in_block block d = record d { block = block }

-- Entries

-- a list with an entry behind the others
abbrev pub with_last : IosEntry → IosList → IosList
with_last entry l = record l { entries = l.entries ++ entry ∷ [] }

-- the lists with an entry in the one of this name, which is the last one where none had the name
abbrev pub with_entry : List ℕ → IosEntry → List IosList → List IosList
with_entry name entry [] = record { name = name; entries = entry ∷ [] } ∷ []
with_entry name entry (l ∷ ls) = if bytes_eq l.name name then with_last entry l ∷ ls else l ∷ with_entry name entry ls

abbrev pub entry_put : List ℕ → IosDraft → IosEntry → Result IosDraft Cause
entry_put name d entry = Ok (record d { lists = with_entry name entry d.lists })

-- a remark is without effect
abbrev pub remark_line : List Word → IosDraft → Result IosDraft Cause
remark_line ws d = if list_all is_sound ws then Ok d else Err Syntax

-- an entry of the list of this name, which is extended or not, and was opened or has a number; or a remark
abbrev pub entry_line : List ℕ → Bool → Bool → List Word → IosDraft → Result IosDraft Cause
entry_line name extended opened [] d = Err Syntax
entry_line name extended opened (w ∷ ws) d =
    if says w (codes "remark") then remark_line ws d else and_then (entry_of extended opened (w ∷ ws)) (entry_put name d)

-- Lists with a number

abbrev pub is_between : ℕ → ℕ → ℕ → Bool
is_between lo hi n = nat_le lo n && nat_le n hi

-- whether the list with a number is an extended one; other numbers are left out
abbrev pub numbered_kind : ℕ → Result Bool Cause
numbered_kind n =
    if is_between 1 99 n || is_between 1300 1999 n then Ok false
    else if is_between 100 199 n || is_between 2000 2699 n then Ok true
    else Err LeftOut

-- the number of a list, and whether that is an extended one
abbrev pub list_number : List ℕ → Result (ℕ × Bool) Cause
list_number text =
    option_map_or (λ n. and_then (numbered_kind n) (λ extended. Ok (n, extended))) (dec_of text 2699) (if is_number text then Err LeftOut else Err Syntax)

-- behind `access-list`
abbrev pub numbered_line : List Word → IosDraft → Result IosDraft Cause
numbered_line [] d = Err Syntax
numbered_line (w ∷ ws) d = judged w (and_then (list_number w.text) (λ list. entry_line (decimal list.0) list.1 false ws d))

-- Lists that are opened

abbrev pub list_kind : Word → Option Bool
list_kind w = if says w (codes "standard") then Some false else if says w (codes "extended") then Some true else None

abbrev pub named_line : Bool → List Word → IosDraft → Result IosDraft Cause
named_line extended [] d = Err Syntax
named_line extended (w ∷ ws) d = judged w (and_then (alone (blocks.List w.text extended) ws) (λ block. Ok (in_block block d)))

-- behind `ip access-list`
abbrev pub opening_line : List Word → IosDraft → Result IosDraft Cause
opening_line [] d = Err Syntax
opening_line (w ∷ ws) d = option_map_or (λ extended. named_line extended ws d) (list_kind w) (Ok d)

-- Interfaces

-- behind `interface`
abbrev pub interface_line : Site → List Word → IosDraft → Result IosDraft Cause
interface_line site [] d = Err Syntax
interface_line site (w ∷ ws) d =
    judged w (and_then (alone (blocks.Interface (entry_named Ios site w.text)) ws) (λ block. Ok (in_block block d)))

abbrev pub direction_of : List ℕ → Option Bool
direction_of text = if is text (codes "in") then Some false else if is text (codes "out") then Some true else None

-- the direction behind the name of a list
abbrev pub direction_line : List ℕ → List Word → Result (List ℕ × Bool) Cause
direction_line name [] = Err Syntax
direction_line name (w ∷ ws) = judged w (option_map_or (λ outward. alone (name, outward) ws) (direction_of w.text) (Err (misplaced w.text)))

-- the name of a list, and a direction
abbrev pub group_words : List Word → Result (List ℕ × Bool) Cause
group_words [] = Err Syntax
group_words (w ∷ ws) = judged w (direction_line w.text ws)

-- the list is applied at another interface, or in the other direction
abbrev pub is_elsewhere : ℕ → Bool → IosGroup → Bool
is_elsewhere face outward g = not (nat_eq g.face face) || (if outward then not g.outward else g.outward)

-- a list that is applied takes the place of another one
abbrev pub with_group : IosGroup → IosDraft → IosDraft
with_group g d = record d { groups = filter (is_elsewhere g.face g.outward) d.groups ++ g ∷ [] }

-- behind `ip access-group`, at an interface that the site may lack
abbrev pub group_line : Option ℕ → List Word → IosDraft → Result IosDraft Cause
group_line face ws d =
    and_then (group_words ws)
    (λ group. option_map_or (λ entry. Ok (with_group (record { face = entry; outward = group.1; list = group.0 }) d)) face (Err NoInterface))

-- an interface is on one side alone
abbrev pub with_mark : Marked → IosDraft → IosDraft
with_mark m d = record d { marks = filter (λ other. not (nat_eq other.face m.face)) d.marks ++ m ∷ [] }

-- behind `ip nat inside` and `ip nat outside`, at an interface that the site may lack
abbrev pub mark_line : Option ℕ → Bool → List Word → IosDraft → Result IosDraft Cause
mark_line face outside ws d =
    and_then (alone outside ws) (λ side. option_map_or (λ entry. Ok (with_mark (record { face = entry; outside = side }) d)) face (Err NoInterface))

-- a line of an interface that the site may lack
abbrev pub face_line : Option ℕ → List Word → IosDraft → Result IosDraft Cause
face_line face ws d =
    if begins (codes "ip" ∷ codes "access-group" ∷ []) ws then group_line face (drop 2 ws) d
    else if begins (codes "ip" ∷ codes "nat" ∷ codes "inside" ∷ []) ws then mark_line face false (drop 3 ws) d
    else if begins (codes "ip" ∷ codes "nat" ∷ codes "outside" ∷ []) ws then mark_line face true (drop 3 ws) d
    else if is_some face && begins_with_any left_out_at_interfaces ws then Err LeftOut
    else Ok d

-- Pools and translations

-- a pool of this name is there
abbrev pub has_pool : List (List ℕ) → List ℕ → Bool
has_pool names name = list_any (bytes_eq name) names

abbrev pub with_pool : List ℕ → IosDraft → IosDraft
with_pool name d = record d { pools = d.pools ++ name ∷ [] }

-- the words behind the name of a pool, which no other has
abbrev pub pool_behind : List ℕ → List Word → IosDraft → Result IosDraft Cause
pool_behind name ws d = if has_pool d.pools name then Err Syntax else and_then (pool_checked ws) (λ whole. Ok (with_pool name d))

-- behind `ip nat pool`
abbrev pub pool_line : List Word → IosDraft → Result IosDraft Cause
pool_line [] d = Err Syntax
pool_line (w ∷ ws) d = judged w (pool_behind w.text ws d)

abbrev pub with_nat : IosNat → IosDraft → IosDraft
with_nat nat d = record d { nats = d.nats ++ nat ∷ [] }

-- behind `ip nat inside`
abbrev pub inside_line : Site → List Pool → List Word → IosDraft → Result IosDraft Cause
inside_line site defined [] d = Err Syntax
inside_line site defined (w ∷ ws) d =
    judged w (if is w.text (codes "source") then and_then (nat_of site defined ws) (λ nat. Ok (with_nat nat d)) else Err LeftOut)

-- the pool that a line defines, whatever stands behind its name
abbrev pub pool_behind_name : List ℕ → List Word → Pool
pool_behind_name name [] = record { name = name; addr = 0 }
pool_behind_name name (w ∷ ws) = record { name = name; addr = option_map_or (λ addr. addr) (quad_of w.text) 0 }

abbrev pub pool_defined : List Word → Option Pool
pool_defined [] = None
pool_defined (w ∷ ws) = if is_sound w then Some (pool_behind_name w.text ws) else None

abbrev pub begins_pool : Line → Bool
begins_pool line = not line.indented && begins (codes "ip" ∷ codes "nat" ∷ codes "pool" ∷ []) line.words

abbrev pub defined_by : Line → Option Pool
defined_by line = if begins_pool line then pool_defined (drop 3 line.words) else None

-- a pool beside others, unless one of them has its name
abbrev pub with_defined : Pool → List Pool → List Pool
with_defined pool defined = if is_some (pool_named pool.name defined) then defined else defined ++ pool ∷ []

-- the pools that the lines define beside others, refused lines among them; the first of one name counts
abbrev pub defined_from : List Pool → List Line → List Pool
defined_from defined [] = defined
defined_from defined (line ∷ lines) = defined_from (option_map_or (λ pool. with_defined pool defined) (defined_by line) defined) lines

abbrev pub all_defined : List Line → List Pool
all_defined lines = defined_from [] lines

-- Lines

-- a line that doesn't begin with a blank; every other one is passed over
abbrev pub top_line : Site → List Pool → List Word → IosDraft → Result IosDraft Cause
top_line site defined ws d =
    if begins (codes "interface" ∷ []) ws then interface_line site (drop 1 ws) d
    else if begins (codes "access-list" ∷ []) ws then numbered_line (drop 1 ws) d
    else if begins (codes "ip" ∷ codes "access-list" ∷ []) ws then opening_line (drop 2 ws) d
    else if begins (codes "ip" ∷ codes "nat" ∷ codes "pool" ∷ []) ws then pool_line (drop 3 ws) d
    else if begins (codes "ip" ∷ codes "nat" ∷ codes "inside" ∷ []) ws then inside_line site defined (drop 3 ws) d
    else if begins_with_any left_out_lines ws then Err LeftOut
    else Ok d

-- a line that begins with a blank, by what it belongs to
abbrev pub block_line : Block → List Word → IosDraft → Result IosDraft Cause
block_line blocks.Other ws d = Ok d
block_line (blocks.Interface face) ws d = face_line face ws d
block_line (blocks.List name extended) ws d = entry_line name extended true ws d

-- a line of the text, after those before it
abbrev pub line_step : Site → List Pool → IosDraft → Line → Result IosDraft Cause
line_step site defined d line =
    if line.indented then block_line d.block line.words d else top_line site defined line.words (in_block blocks.Other d)

-- a text before its first line
abbrev pub fresh_text : IosDraft
fresh_text = record { block = blocks.Other; lists = []; groups = []; marks = []; pools = []; nats = [] }

-- the interfaces of a side, beside these
abbrev pub with_marked : Bool → List Iv → List Marked → List Iv
with_marked outside set [] = set
with_marked outside set (m ∷ ms) =
    with_marked outside (if (if outside then m.outside else not m.outside) then with_range m.face m.face set else set) ms

abbrev pub ended : IosDraft → Result IosConfig Cause
ended d = Ok (record {
  lists = d.lists;
  groups = d.groups;
  inside = with_marked false [] d.marks;
  outside = with_marked true [] d.marks;
  nats = d.nats;
})

-- the configuration that a text spells on a site
abbrev pub spelled : Site → List ℕ → Result IosConfig (Refusal Cause)
spelled site text = text_read IosComments (line_step site (all_defined (read_of IosComments text).lines)) ended fresh_text text
