-- What was read of the literals of a rule, and how a word more is read.
use Rattle.std.proofs.Common.{◌≡◌, ℕ, Bool, true, false, cond, ◌||◌, not, nat_eq, Option, Some, None, Result, Ok, Err, List, [], ◌∷◌, ◌++◌, map, refl, ap, ◌∙◌}
use Rattle.std.proofs.lemmas.Bool.{and_from, and_parts}
use Rattle.std.specs.List.{list_all, list_any}
use Rattle.std.specs.Option.{option_map_or}
use Rattle.std.specs.Str.{bytes_eq}
use Rattle.fws_num.specs.Words.{is_printed, plain_word}
use Rattle.fws_num.specs.Written.{is_plain_byte, is_plain}
use Rattle.fws_net.specs.declared.condition.Lit.{Lit}
use Rattle.fws_net.specs.declared.cause.Cause.{Cause}
use Rattle.fws_net.specs.declared.cause.Cause.TheVariants.{Syntax, LeftOut}
use Rattle.fws_net.specs.declared.site.Site.{Site}
use Rattle.fws_net.specs.Causes.{judged, words_read}
use Rattle.fws_net.specs.Reading.{and_then}
use Rattle.fws_ipt.specs.declared.config.IptTable.{IptTable}
use Rattle.fws_ipt.specs.declared.config.IptGo.TheVariants as acts
use Rattle.fws_ipt.specs.declared.config.IptChain.{IptChain}
use Rattle.fws_ipt.specs.declared.words.Keyword.TheVariants as keywords
use Rattle.fws_ipt.specs.declared.words.TestOption.{TestOption}
use Rattle.fws_ipt.specs.declared.draft.Expects.TheVariants as expect
use Rattle.fws_ipt.specs.declared.draft.RuleDraft.{RuleDraft}
use Rattle.fws_ipt.specs.Options.{keyword_of}
use Rattle.fws_ipt.specs.RuleText.{asks_flags, asks_icmp, asks_port, closed, expected_step, expecting, known_step, noted, rule_step, test_begun}
use Rattle.fws_ipt_print.proofs.Basics.{if_true}

-- Words without their lines

-- the words of a rule, if all of them can be judged
abbrev pub texts_read : Site → IptTable → List IptChain → RuleDraft → List (List ℕ) → Result RuleDraft Cause
texts_read site table chains d [] = Ok d
texts_read site table chains d (text ∷ texts) =
    and_then (expected_step site table chains d.expects text d) (λ e. texts_read site table chains e texts)

plain_sound : (text : List ℕ) → list_all is_plain_byte text ≡ true → list_all is_printed text ≡ true
plain_sound [] h = refl
plain_sound (c ∷ text) h =
    let parts = and_parts (is_plain_byte c) (list_all is_plain_byte text) h in
    and_from (is_printed c) (list_all is_printed text) (and_parts (is_printed c) (not (nat_eq c 34)) parts.0).0 (plain_sound text parts.1)

-- a plain word is judged by what is read of it
pub plain_judged : {A : Type 0} (n : ℕ) (text : List ℕ) (read : Result A Cause) → is_plain text ≡ true → judged (plain_word n text) read ≡ read
plain_judged n text read h =
    if_true (list_all is_printed text) read (Err Syntax) (plain_sound text (and_parts _ (list_all is_plain_byte text) h).1)

then_each : {A B E : Type 0} (o : Result A E) (f g : A → Result B E) → ((x : A) → f x ≡ g x) → and_then o f ≡ and_then o g
then_each (Ok x) f g h = h x
then_each (Err e) f g h = refl

pub words_by_texts : (site : Site) (table : IptTable) (chains : List IptChain) (n : ℕ) (texts : List (List ℕ)) (d : RuleDraft) → list_all is_plain texts ≡ true
    → words_read (rule_step site table chains) d (map (plain_word n) texts) ≡ texts_read site table chains d texts
words_by_texts site table chains n [] d h = refl
words_by_texts site table chains n (text ∷ texts) d h =
    let parts = and_parts (is_plain text) (list_all is_plain texts) h in
    let step = expected_step site table chains d.expects text d in
    ap (λ o. and_then o (λ e. words_read (rule_step site table chains) e (map (plain_word n) texts))) (plain_judged n text step parts.0)
    ∙ then_each step (λ e. words_read (rule_step site table chains) e (map (plain_word n) texts)) (λ e. texts_read site table chains e texts)
    (λ e. words_by_texts site table chains n texts e parts.1)

-- What was read of literals

pub record Told : Type 0 where
  pub given : List (List ℕ)
  pub lits : List Lit
  pub source : Option ℕ
  pub destination : Option ℕ
  pub protocol : Option ℕ
  pub has_port : Bool
  pub has_flags : Bool
  pub has_icmp : Bool

abbrev pub none_told : Told
none_told = record {
  given = [];
  lits = [];
  source = None;
  destination = None;
  protocol = None;
  has_port = false;
  has_flags = false;
  has_icmp = false;
}

-- the draft of a rule of which literals were read
abbrev pub shown : Told → RuleDraft
shown t = record {
  expects = expect.Keyword;
  given = t.given;
  cond = t.lits;
  source = t.source;
  destination = t.destination;
  protocol = t.protocol;
  has_port = t.has_port;
  has_flags = t.has_flags;
  has_icmp = t.has_icmp;
  is_limited = false;
  target = None;
  go = acts.Next;
  is_open = false;
  owes = false;
}

-- an option more was given
abbrev pub asked : List ℕ → TestOption → Told → Told
asked key option t = record t {
  given = t.given ++ key ∷ [];
  has_port = t.has_port || asks_port option;
  has_flags = t.has_flags || asks_flags option;
  has_icmp = t.has_icmp || asks_icmp option;
}

-- Steps

module _ (site : Site) (table : IptTable) (chains : List IptChain) where
  -- a word that is taken
  pub word_then : (text : List ℕ) (rest : List (List ℕ)) (d e : RuleDraft) → expected_step site table chains d.expects text d ≡ Ok e
      → texts_read site table chains d (text ∷ rest) ≡ texts_read site table chains e rest
  word_then text rest d e h = ap (λ o. and_then o (λ e. texts_read site table chains e rest)) h

  -- an option that wasn't given yet
  pub option_then : (key : List ℕ) (option : TestOption) (t : Told) (rest : List (List ℕ)) → keyword_of key ≡ Some (keywords.Test option)
      → ((d : RuleDraft) → test_begun false option d ≡ expecting (expect.Value option false) d) → list_any (bytes_eq key) t.given ≡ false
      → texts_read site table chains (shown t) (key ∷ rest) ≡ texts_read site table chains (expecting (expect.Value option false) (shown (asked key option t))) rest
  option_then key option t rest named begun fresh =
      let e : RuleDraft = record (shown t) { given = t.given ++ key ∷ [] } in
      word_then key rest (shown t) (expecting (expect.Value option false) (shown (asked key option t)))
      (ap (λ o. option_map_or (λ keyword. known_step key keyword (shown t)) o (Err LeftOut)) named
      ∙ ap (λ b. and_then (cond b (Err Syntax) (Ok e)) (λ e. Ok (test_begun false option (noted option (closed e))))) fresh
      ∙ ap (λ d. Ok d) (begun (noted option (closed e))))
