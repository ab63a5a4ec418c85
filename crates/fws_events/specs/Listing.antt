-- Listed connections whose classes are looked up.
use Rattle.std.specs.Prelude.{◌≡◌, true, ◌||◌, List, [], ◌∷◌}
use Rattle.std.specs.List.{flat_map}
use Rattle.fws_net.specs.declared.connection.Conn.{Conn}
use Rattle.fws_net.specs.declared.connection.Kind.TheVariants.{New}
use Rattle.fws_net.specs.declared.connection.Tuple.{Tuple}
use Rattle.fws_net.specs.Connections.{matches, class_of}
use Rattle.fws_trace.specs.declared.classes.Classes.{Classes}
use Rattle.fws_trace.specs.Classes.{class_in}

-- the connections of chunks, one chunk behind the other
abbrev pub joined : List (List Conn) → List Conn
joined chunks = flat_map (λ (chunk : List Conn). chunk) chunks

-- the classes that are looked up are those against the list
abbrev pub AreClassesOf : Classes → List Conn → Type 0
AreClassesOf classes conns = (t : Tuple) → class_in classes t ≡ class_of conns t

-- what an entry matches, no later one does
abbrev pub AreApart : List Conn → Type 0
AreApart [] = Unit {0}
AreApart (c ∷ cs) = ((t : Tuple) → (matches c.orig t || matches c.reply t) ≡ true → class_of cs t ≡ New) × AreApart cs
