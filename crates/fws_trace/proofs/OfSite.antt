-- Packets that are read are packets of the site.
use Rattle.std.proofs.Common.{◌≡◌, ℕ, suc, ◌+◌, ◌≤◌, Bool, true, false, cond, Option, Some, None, option_and_then, Result, Ok, Err, List, [], ◌∷◌, length, All, IfOk, IfSome, MatchResult, ◌&&◌, nat_le, refl, arith}
use Rattle.std.proofs.lemmas.Bool.{and_parts, leb-true}
use Rattle.std.proofs.lemmas.Result.{IfOk-at_ok}
use Rattle.std.proofs.lemmas.List.Elements.{All-nil, All-cons}
use Rattle.std.specs.Prelude.{codes}
use Rattle.std.specs.Option.{option_map}
use Rattle.std.specs.List.{list_all}
use Rattle.std.specs.Str.{bytes_eq}
use Rattle.fws_num.specs.declared.lines.Line.{Line}
use Rattle.fws_num.specs.declared.word.Word.{Word}
use Rattle.fws_num.specs.Numbers.{dec_of, is_digit, digits_value}
use Rattle.fws_num.specs.Words.{is_sound}
use Rattle.fws_net.specs.declared.packet.Packet.{Packet}
use Rattle.fws_net.specs.declared.site.Iface.{Iface}
use Rattle.fws_net.specs.declared.site.Site.{Site}
use Rattle.fws_net.specs.SiteLines.{entry_from}
use Rattle.fws_trace.specs.ConnectionText.{spelled_tuple}
use Rattle.fws_trace.specs.Lines.{spelled_line, listed, lines_listed}
use Rattle.fws_trace.specs.PacketText.{spelled_entry, spelled_marks, spelled_from, spelled_packet, packet_with, IsOfSite}

-- Values that there may be

either : {A : Type 0} (P : A → Type 0) (b : Bool) (o p : Option A) → (b ≡ true → IfSome o P) → IfSome p P → IfSome (cond b o p) P
either P true o p h k = h refl
either P false o p h k = k

then_has : {A B : Type 0} (P : A → Type 0) (Q : B → Type 0) (o : Option A) (f : A → Option B) → IfSome o P → ((x : A) → P x → IfSome (f x) Q) → IfSome (option_and_then f o) Q
then_has P Q None f h step = tt
then_has P Q (Some x) f h step = step x h

then_any : {A B : Type 0} (Q : B → Type 0) (o : Option A) (f : A → Option B) → ((x : A) → IfSome (f x) Q) → IfSome (option_and_then f o) Q
then_any Q None f step = tt
then_any Q (Some x) f step = step x

mapped_has : {A B : Type 0} (P : A → Type 0) (Q : B → Type 0) (o : Option A) (f : A → B) → IfSome o P → ((x : A) → P x → Q (f x)) → IfSome (option_map f o) Q
mapped_has P Q None f h step = tt
mapped_has P Q (Some x) f h step = step x h

mapped_any : {A B : Type 0} (Q : B → Type 0) (o : Option A) (f : A → B) → ((x : A) → Q (f x)) → IfSome (option_map f o) Q
mapped_any Q None f step = tt
mapped_any Q (Some x) f step = step x

weaker : {A : Type 0} (P Q : A → Type 0) (o : Option A) → ((x : A) → P x → Q x) → IfSome o P → IfSome o Q
weaker P Q None f h = tt
weaker P Q (Some x) f h = f x h

-- Entries and flags

abbrev IsBelow : ℕ → ℕ → Type 0
IsBelow n e = e + 1 ≤ n

entry_below : (n : ℕ) (faces : List Iface) (name : List ℕ) → IfSome (entry_from n faces name) (IsBelow (n + length faces))
entry_below n [] name = tt
entry_below n (face ∷ faces) name = either (IsBelow (n + suc (length faces))) (bytes_eq face.name name) (Some n) (entry_from (suc n) faces name)
    (λ _. omega arith)
    (weaker (IsBelow (suc n + length faces)) (IsBelow (n + suc (length faces))) (entry_from (suc n) faces name) (λ e h. omega arith) (entry_below (suc n) faces name))

abbrev IsEntryOf : Site → ℕ → Type 0
IsEntryOf site e = e ≤ length site.faces + 1

entry_of_site : (site : Site) (name : List ℕ) → IfSome (spelled_entry site name) (IsEntryOf site)
entry_of_site site name = either (IsEntryOf site) (bytes_eq name (codes "host")) (Some 0)
    (cond (bytes_eq name (codes "lo")) (Some 1) (entry_from 2 site.faces name)) (λ _. omega arith)
    (either (IsEntryOf site) (bytes_eq name (codes "lo")) (Some 1) (entry_from 2 site.faces name) (λ _. omega arith)
    (weaker (IsBelow (2 + length site.faces)) (IsEntryOf site) (entry_from 2 site.faces name) (λ e h. omega arith) (entry_below 2 site.faces name)))

dec_at_most : (text : List ℕ) (most : ℕ) → IfSome (dec_of text most) (λ n. n ≤ most)
dec_at_most text most = either (λ n. n ≤ most) (list_all is_digit text && nat_le 1 (length text) && nat_le (length text) 20 && nat_le (digits_value text) most) (Some (digits_value text)) None
    (λ all. leb-true (digits_value text) most (and_parts (list_all is_digit text && nat_le 1 (length text) && nat_le (length text) 20) (nat_le (digits_value text) most) all).1) tt

abbrev AreFlags : ℕ × ℕ → Type 0
AreFlags marks = marks.0 ≤ 63

marks_of_site : (flags icmp : Word) → IfSome (spelled_marks flags icmp) AreFlags
marks_of_site flags icmp = then_has (λ n. n ≤ 63) AreFlags (dec_of flags.text 63) (λ f. option_map (λ i. (f, i)) (dec_of icmp.text 255)) (dec_at_most flags.text 63)
    (λ f h. mapped_any AreFlags (dec_of icmp.text 255) (λ i. (f, i)) (λ i. h))

-- Packets

from_of_site : (site : Site) (entry : ℕ) (words : List Word) → IsEntryOf site entry → IfSome (spelled_from entry words) (IsOfSite site)
from_of_site site entry [] entered = tt
from_of_site site entry (a ∷ []) entered = tt
from_of_site site entry (a ∷ b ∷ []) entered = tt
from_of_site site entry (a ∷ b ∷ c ∷ []) entered = tt
from_of_site site entry (a ∷ b ∷ c ∷ d ∷ []) entered = tt
from_of_site site entry (a ∷ b ∷ c ∷ d ∷ e ∷ []) entered = tt
from_of_site site entry (a ∷ b ∷ c ∷ d ∷ e ∷ f ∷ []) entered = tt
from_of_site site entry (a ∷ b ∷ c ∷ d ∷ e ∷ f ∷ g ∷ []) entered = then_any (IsOfSite site) (spelled_tuple a b c d e)
    (λ t. option_map (λ marks. packet_with entry t marks.0 marks.1) (spelled_marks f g))
    (λ t. mapped_has AreFlags (IsOfSite site) (spelled_marks f g) (λ marks. packet_with entry t marks.0 marks.1) (marks_of_site f g)
    (λ marks flagged. record { entered = entered; flagged = flagged }))
from_of_site site entry (a ∷ b ∷ c ∷ d ∷ e ∷ f ∷ g ∷ h ∷ rest) entered = tt

pub words_of_site : (site : Site) (words : List Word) → IfSome (spelled_packet site words) (IsOfSite site)
words_of_site site [] = tt
words_of_site site (w ∷ words) = then_has (IsEntryOf site) (IsOfSite site) (spelled_entry site w.text) (λ from. spelled_from from words) (entry_of_site site w.text)
    (λ from entered. from_of_site site from words entered)

line_of_site : (site : Site) (l : Line) → IfSome (spelled_line (spelled_packet site) l) (IsOfSite site)
line_of_site site l = either (IsOfSite site) (list_all is_sound l.words) (spelled_packet site l.words) None (λ _. words_of_site site l.words) tt

behind_of_site : (site : Site) (n : ℕ) (o : Option Packet) (later : Result (List Packet) ℕ) → IfSome o (IsOfSite site) → IfOk later (All (IsOfSite site)) → IfOk (listed n o later) (All (IsOfSite site))
behind_of_site site n None later one all = tt
behind_of_site site n (Some p) (Ok ps) one all = All-cons (IsOfSite site) p ps one all
behind_of_site site n (Some p) (Err m) one all = tt

-- packets that lines list are packets of the site
pub listed_of_site : (site : Site) (ls : List Line) → IfOk (lines_listed (spelled_packet site) ls) (All (IsOfSite site))
listed_of_site site [] = All-nil (IsOfSite site)
listed_of_site site (l ∷ ls) = behind_of_site site l.number (spelled_line (spelled_packet site) l) (lines_listed (spelled_packet site) ls) (line_of_site site l) (listed_of_site site ls)

-- what holds of all that a text lists holds of all that is read of it
pub read_has : {V E A : Type 0} (r : Result V E) (items : V → List A) (read : Result (List A) ℕ) (P : List A → Type 0) (Q : E → Type 0)
    → MatchResult r (λ v. read ≡ Ok (items v)) Q → IfOk read P → IfOk r (λ v. P (items v))
read_has (Ok v) items read P Q e all = IfOk-at_ok P e all
read_has (Err e) items read P Q f all = tt
