-- The words of a query: `FIELD=SET`, each field at most once, and what they ask for.
use Rattle.std.specs.Prelude.{◌≡◌, ◌≤◌, ℕ, ◌+◌, Bool, true, false, ◌&&◌, ◌||◌, not, nat_eq, nat_le}
use Rattle.std.specs.Prelude.{Option, Some, None, is_some, option_and_then, List, [], ◌∷◌, length, slice_index, codes, if◌then◌else◌}
use Rattle.std.specs.Option.{option_map_or, option_map}
use Rattle.std.specs.Str.{bytes_eq}
use Rattle.std.specs.List.{list_any, list_all, range_with_len}
use Rattle.fws_num.specs.Named.{named_in}
use Rattle.fws_num.specs.Numbers.{dec_of, quad_of, split_once}
use Rattle.fws_num.specs.Pieces.{pieces_of}
use Rattle.fws_iv.specs.declared.iv.Iv.{Iv}
use Rattle.fws_iv.specs.Ivs.{has}
use Rattle.fws_net.specs.declared.packet.State.{State}
use Rattle.fws_net.specs.declared.packet.State.TheVariants as states
use Rattle.fws_net.specs.declared.site.Site.{Site}
use Rattle.fws_net.specs.Points.{tops_of}
use Rattle.fws_box.specs.Sides.{IsWithin, sides_have}
use Rattle.fws_table.specs.TableText.{entry_name}
use Rattle.fws_top.specs.declared.ask.Subject.{Subject}
use Rattle.fws_top.specs.declared.ask.Subject.TheVariants.{Entry, Proto, Dst, Dport, Src, Sport, Flags, Icmp, Rdst, Rdport, Rsrc, Rsport, Verdict}

-- Words

-- words before the `=` and what they ask about
abbrev pub subject_names : List (List ℕ × Subject)
subject_names =
    (codes "entry", Entry) ∷ (codes "proto", Proto) ∷ (codes "dst", Dst) ∷ (codes "dport", Dport) ∷ (codes "src", Src) ∷
    (codes "sport", Sport) ∷ (codes "flags", Flags) ∷ (codes "icmp", Icmp) ∷ (codes "rdst", Rdst) ∷ (codes "rdport", Rdport) ∷
    (codes "rsrc", Rsrc) ∷ (codes "rsport", Rsport) ∷ (codes "verdict", Verdict) ∷ []

-- what a word before the `=` asks about
unfoldable pub subject_of : List ℕ → Option Subject
subject_of text = named_in subject_names text

-- the number of the field; a verdict is none of the fields
abbrev pub number_of : Subject → ℕ
number_of Entry = 0
number_of Proto = 1
number_of Dst = 2
number_of Dport = 3
number_of Src = 4
number_of Sport = 5
number_of Flags = 6
number_of Icmp = 7
number_of Rdst = 8
number_of Rdport = 9
number_of Rsrc = 10
number_of Rsport = 11
number_of Verdict = 12

-- a value of a field, spelled as a decimal up to the field's greatest value or as an address
abbrev pub field_value : Subject → List ℕ → Option ℕ
field_value Entry text = None
field_value Proto text = dec_of text 255
field_value Dst text = quad_of text
field_value Dport text = dec_of text 65535
field_value Src text = quad_of text
field_value Sport text = dec_of text 65535
field_value Flags text = dec_of text 63
field_value Icmp text = dec_of text 255
field_value Rdst text = quad_of text
field_value Rdport text = dec_of text 65535
field_value Rsrc text = quad_of text
field_value Rsport text = dec_of text 65535
field_value Verdict text = None

-- Sets

-- the items of a set, between commas
abbrev pub items_of : List ℕ → List (List ℕ)
items_of set = pieces_of 44 set

-- the range of an item `lo-hi` with lo at most hi
abbrev pub ordered : Option ℕ → Option ℕ → Option (ℕ × ℕ)
ordered lo hi = option_and_then (λ a. option_and_then (λ b. if nat_le a b then Some (a, b) else None) hi) lo

-- an item `v` or `lo-hi`
abbrev pub range_of : Subject → List ℕ → Option (ℕ × ℕ)
range_of subject item = option_map_or (λ parts. ordered (field_value subject parts.0) (field_value subject parts.1))
    (split_once 45 item) (option_map (λ v. (v, v)) (field_value subject item))

-- an item of a set is a name of an entry, or a range of values
abbrev pub is_item : Subject → List ℕ → Bool
is_item Entry item = not (bytes_eq item [])
is_item subject item = is_some (range_of subject item)

-- the whole range, or items with commas between
abbrev pub is_set : Subject → List ℕ → Bool
is_set subject set = bytes_eq set (codes "*") || list_all (is_item subject) (items_of set)

abbrev pub verdict_asked : List ℕ → Option Bool
verdict_asked text = if bytes_eq text (codes "accept") then Some true else if bytes_eq text (codes "drop") then Some false else None

-- what is behind the `=` is spelled as its subject needs it
abbrev pub is_asked : Subject → List ℕ → Bool
is_asked Verdict text = is_some (verdict_asked text)
is_asked subject text = is_set subject text

-- the subject of a word that is well spelled, and what it asks of it
unfoldable pub ask_of : List ℕ → Option (Subject × List ℕ)
ask_of word = option_and_then (λ parts. option_and_then (λ subject. if is_asked subject parts.1 then Some (subject, parts.1) else None)
    (subject_of parts.0)) (split_once 61 word)

-- a word asks about this subject
abbrev pub asks_about : Subject → List ℕ → Bool
asks_about subject word = option_map_or (λ ask. nat_eq (number_of ask.0) (number_of subject)) (ask_of word) false

-- a word is well spelled, and no later one asks again about its subject
abbrev pub asks_last : List ℕ → List (List ℕ) → Bool
asks_last word later = option_map_or (λ ask. not (list_any (asks_about ask.0) later)) (ask_of word) false

-- each word is well spelled, and none asks again about the subject of an earlier one
abbrev pub are_asks : List (List ℕ) → Bool
are_asks [] = true
are_asks (word ∷ words) = asks_last word words && are_asks words

-- the ends with which an established packet leaves are shown for such packets alone
abbrev pub is_shown : State → Subject → Bool
is_shown states.Fresh Rdst = false
is_shown states.Fresh Rdport = false
is_shown states.Fresh Rsrc = false
is_shown states.Fresh Rsport = false
is_shown state subject = true

abbrev pub asks_shown : State → List ℕ → Bool
asks_shown state word = option_map_or (λ ask. is_shown state ask.0) (ask_of word) false

-- each word asks about what is shown of the packets of the state
abbrev pub are_shown : State → List (List ℕ) → Bool
are_shown state words = list_all (asks_shown state) words

-- Meaning

-- the name of an entry, or a range, has the value
abbrev pub item_has : Site → Subject → List ℕ → ℕ → Bool
item_has site Entry item x = bytes_eq (entry_name site x) item
item_has site subject item x = option_map_or (λ range. nat_le range.0 x && nat_le x range.1) (range_of subject item) false

abbrev pub set_has : Site → Subject → List ℕ → ℕ → Bool
set_has site subject set x = bytes_eq set (codes "*") || list_any (λ item. item_has site subject item x) (items_of set)

-- among the values of its field the set has those that pass the test
abbrev pub HasValues : Site → Subject → (ℕ → Bool) → List Iv → Type 0
HasValues site subject test s = (x : ℕ) → x ≤ slice_index (tops_of site) (number_of subject) → has s x ≡ test x

-- the word asks for the point; a verdict asks for every point
abbrev pub ask_has : Site → Subject → List ℕ → List ℕ → Bool
ask_has site Verdict set p = true
ask_has site subject set p = set_has site subject set (slice_index p (number_of subject))

-- the word is well spelled and asks for the point
abbrev pub word_has : Site → List ℕ → List ℕ → Bool
word_has site word p = option_map_or (λ ask. ask_has site ask.0 ask.1 p) (ask_of word) false

-- every word asks for the point
abbrev pub asks_have : Site → List (List ℕ) → List ℕ → Bool
asks_have site [] p = true
asks_have site (word ∷ words) p = word_has site word p && asks_have site words p

-- within the tops, the new sides have the points of the old ones that pass the test
abbrev pub AreNarrowed : Site → (List ℕ → Bool) → List (List Iv) → List (List Iv) → Type 0
AreNarrowed site test old new = (p : List ℕ) → IsWithin (tops_of site) p → sides_have new p ≡ (sides_have old p && test p)

-- the verdict that is asked for behind the `=`
abbrev pub verdict_behind : Subject → List ℕ → Option Bool
verdict_behind Verdict text = verdict_asked text
verdict_behind subject text = None

-- the verdict that a word asks for
abbrev pub word_verdict : List ℕ → Option Bool
word_verdict word = option_and_then (λ ask. verdict_behind ask.0 ask.1) (ask_of word)

-- the verdict that the first such word asks for
abbrev pub asked_verdict : List (List ℕ) → Option Bool
asked_verdict [] = None
asked_verdict (word ∷ words) = option_map_or Some (word_verdict word) (asked_verdict words)

-- an entry of the site has the name
abbrev pub is_entry : Site → List ℕ → Bool
is_entry site name = list_any (λ x. bytes_eq (entry_name site x) name) (range_with_len 0 (length site.faces + 2))

abbrev pub set_is_known : Site → Subject → List ℕ → Bool
set_is_known site Entry set = bytes_eq set (codes "*") || list_all (is_entry site) (items_of set)
set_is_known site subject set = true

abbrev pub word_is_known : Site → List ℕ → Bool
word_is_known site word = option_map_or (λ ask. set_is_known site ask.0 ask.1) (ask_of word) true

-- each entry that the words name is one of the site
abbrev pub are_known : Site → List (List ℕ) → Bool
are_known site [] = true
are_known site (word ∷ words) = word_is_known site word && are_known site words
