-- Events that are read are events of the site.
use Rattle.std.proofs.Common.{◌≡◌, ℕ, Bool, true, false, cond, Option, Some, None, Result, Ok, Err, List, [], ◌∷◌, All, IfOk, IfSome, MatchResult}
use Rattle.std.proofs.lemmas.List.Elements.{All-nil, All-cons}
use Rattle.std.proofs.lemmas.Result.{IfOk-at_ok}
use Rattle.std.specs.List.{list_all}
use Rattle.std.specs.Option.{option_map, option_or}
use Rattle.std.specs.Str.{bytes_eq}
use Rattle.std.specs.Prelude.{codes}
use Rattle.fws_events.specs.declared.events.Event.{Event}
use Rattle.fws_events.specs.declared.events.Event.TheVariants as events
use Rattle.fws_events.specs.EventText.{spelled_expiry, event_of}
use Rattle.fws_events.specs.Runs.{IsEventOf}
use Rattle.fws_net.specs.declared.packet.Packet.{Packet}
use Rattle.fws_net.specs.declared.site.Site.{Site}
use Rattle.fws_num.specs.declared.lines.Line.{Line}
use Rattle.fws_num.specs.declared.word.Word.{Word}
use Rattle.fws_num.specs.Numbers.{dec_of}
use Rattle.fws_num.specs.Words.{is_sound}
use Rattle.fws_trace.specs.Lines.{spelled_line, listed, lines_listed}
use Rattle.fws_trace.specs.PacketText.{spelled_packet, IsOfSite}

-- every packet that words spell is one of the site
abbrev pub SpellsOfSite : Type 0
SpellsOfSite = (site : Site) (words : List Word) → IfSome (spelled_packet site words) (IsOfSite site)

either : (site : Site) (p : Option Packet) (e : Option Event) → IfSome p (IsOfSite site) → IfSome e (IsEventOf site)
    → IfSome (option_or (option_map (λ q. events.Packet q) p) e) (IsEventOf site)
either site (Some q) e of_site other = of_site
either site None e of_site other = other

entered : (site : Site) (is : Bool) (k : Option ℕ) → IfSome (cond is (option_map (λ n. events.Expire n) k) None) (IsEventOf site)
entered site true (Some n) = tt
entered site true None = tt
entered site false k = tt

expiry_of_site : (site : Site) (words : List Word) → IfSome (spelled_expiry words) (IsEventOf site)
expiry_of_site site [] = tt
expiry_of_site site (a ∷ []) = tt
expiry_of_site site (a ∷ b ∷ []) = entered site (bytes_eq a.text (codes "expire")) (dec_of b.text 4294967295)
expiry_of_site site (a ∷ b ∷ c ∷ words) = tt

if_sound : (site : Site) (is : Bool) (o : Option Event) → IfSome o (IsEventOf site) → IfSome (cond is o None) (IsEventOf site)
if_sound site true o h = h
if_sound site false o h = tt

line_of_site : SpellsOfSite → (site : Site) (l : Line) → IfSome (spelled_line (event_of site) l) (IsEventOf site)
line_of_site law site l = if_sound site (list_all is_sound l.words) (event_of site l.words)
    (either site (spelled_packet site l.words) (spelled_expiry l.words) (law site l.words) (expiry_of_site site l.words))

behind : (site : Site) (n : ℕ) (o : Option Event) (later : Result (List Event) ℕ) → IfSome o (IsEventOf site) → IfOk later (All (IsEventOf site))
    → IfOk (listed n o later) (All (IsEventOf site))
behind site n None later one all = tt
behind site n (Some e) (Ok es) one all = All-cons (IsEventOf site) e es one all
behind site n (Some e) (Err m) one all = tt

-- events that lines list are events of the site
pub listed_of_site : SpellsOfSite → (site : Site) (ls : List Line) → IfOk (lines_listed (event_of site) ls) (All (IsEventOf site))
listed_of_site law site [] = All-nil (IsEventOf site)
listed_of_site law site (l ∷ ls) = behind site l.number (spelled_line (event_of site) l) (lines_listed (event_of site) ls) (line_of_site law site l) (listed_of_site law site ls)

-- what holds of all that a text lists holds of all that is read of it
pub read_has : {V E A : Type 0} (r : Result V E) (items : V → List A) (read : Result (List A) ℕ) (P : List A → Type 0) (Q : E → Type 0)
    → MatchResult r (λ v. read ≡ Ok (items v)) Q → IfOk read P → IfOk r (λ v. P (items v))
read_has (Ok v) items read P Q e all = IfOk-at_ok P e all
read_has (Err e) items read P Q f all = tt
