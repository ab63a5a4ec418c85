-- What a shelf or a sink in memory was made to do: which calls fail, which names are held, how much one put takes.
use Rattle.std.specs.Prelude.{ℕ, Bool, List}
use Rattle.fws_io.specs.Contents.{is_held}
use Rattle.fws_io.specs.declared.mem_shelf.MemShelf.{MemShelf}
use Rattle.fws_io.specs.declared.mem_sink.MemSink.{MemSink}

-- the numbers of the reads that fail
abbrev pub shelf_fails : MemShelf → List ℕ
shelf_fails shelf = shelf.failing.listed

-- how many reads were made
abbrev pub reads_made : MemShelf → ℕ
reads_made shelf = shelf.failing.made

-- the shelf holds the name
abbrev pub shelf_holds : MemShelf → List ℕ → Bool
shelf_holds shelf name = is_held shelf.contents name

-- the numbers of the puts that fail
abbrev pub sink_fails : MemSink → List ℕ
sink_fails sink = sink.failing.listed

-- how many puts were made of a piece that isn't empty
abbrev pub puts_made : MemSink → ℕ
puts_made sink = sink.failing.made

-- for how many puts there was no memory
abbrev pub puts_refused : MemSink → ℕ
puts_refused sink = sink.refused.count

-- the greatest length of one put
abbrev pub most_of : MemSink → ℕ
most_of sink = sink.most
