-- The order of tokens, by their entries.
use Rattle.std.specs.Prelude.{ℕ, Bool, true, not, ◌&&◌, ◌||◌, Some, None, Option, ◌==◌, nat_lt}
use Rattle.rows.specs.declared.memory.Token.{Token}
use Rattle.rules.specs.Keys.{Key}
use Rattle.model.specs.Steps.{key_of}
use Rattle.choosing.specs.declared.entry.Entry.{Entry}

-- the entry of a token in a plane with that span
abbrev pub entry_of : Key → ℕ → Token → Entry
entry_of key span x = record { key = key_of key span x; tag = x.tag }

-- x stands before y: by key, and then by tag
abbrev pub earlier : Entry → Entry → Bool
earlier x y = nat_lt x.key y.key || (x.key == y.key && nat_lt x.tag y.tag)

-- x does not stand after the last one chosen
abbrev pub up_to : Option Entry → Entry → Bool
up_to None x = true
up_to (Some last) x = not (earlier last x)
