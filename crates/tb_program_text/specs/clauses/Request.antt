-- What the arguments ask for.
use Rattle.std.specs.Prelude.{ℕ, true, false, List, [], ◌∷◌, Option, Some, None, is_some, bytes_eq, codes, nat_eq, if◌then◌else◌}
use Rattle.std.specs.List.{starts_with}
use Rattle.tb_program_text.specs.declared.request.Options.{Options}
use Rattle.tb_program_text.specs.declared.request.Reading.{Reading}
use Rattle.tb_program_text.specs.declared.request.Request.{Request}
use Rattle.tb_program_text.specs.declared.request.Request.TheVariants.{List as ListAsked, Run, Replay, Help, Version, Usage}

abbrev pub no_options : Options
no_options = record { names = false; strict = false; journal = None }

-- before the first word after `list` or `run`
abbrev pub nothing_read : Reading
nothing_read = record { options = no_options; awaits_path = false }

abbrev pub with_options : Options → Option Reading
with_options options = Some (record { options = options; awaits_path = false })

-- no path begins like an option
abbrev pub with_path : Options → List ℕ → Option Reading
with_path options path =
    if starts_with nat_eq path (codes "--") then None else with_options (record options { journal = Some path })

-- the options with the one that a word gives; the word after --journal, which is given once, is a path
abbrev pub with_word : Reading → List ℕ → Option Reading
with_word reading word =
    if reading.awaits_path then with_path reading.options word
    else if bytes_eq word (codes "--names") then with_options (record reading.options { names = true })
    else if bytes_eq word (codes "--strict") then with_options (record reading.options { strict = true })
    else if bytes_eq word (codes "--journal")
    then if is_some reading.options.journal then None else Some (record reading { awaits_path = true })
    else None

-- one step after another, if the first gives options
abbrev pub and_then : Option Reading → (Reading → Option Reading) → Option Reading
and_then None more = None
and_then (Some reading) more = more reading

-- what is read after these words too; each gives an option or is a path
unfoldable pub after_words : Reading → List (List ℕ) → Option Reading
after_words reading [] = Some reading
after_words reading (word ∷ words) = and_then (with_word reading word) (λ next. after_words next words)

abbrev pub finished : Reading → Option Options
finished reading = if reading.awaits_path then None else Some reading.options

abbrev pub options_of : Option Reading → Option Options
options_of None = None
options_of (Some reading) = finished reading

abbrev pub asked_by : List ℕ → Options → Request
asked_by word options =
    if bytes_eq word (codes "list") then ListAsked options
    else if bytes_eq word (codes "run") then Run options
    else if bytes_eq word (codes "--help") then Help
    else if bytes_eq word (codes "--version") then Version
    else Usage

abbrev pub asked_with : List ℕ → Option Options → Request
asked_with word None = Usage
asked_with word (Some options) = asked_by word options

-- of a file alone
abbrev pub replay_of : List (List ℕ) → Request
replay_of (path ∷ []) = Replay path
replay_of words = Usage

-- the first word is the program's name
abbrev pub request_of : List (List ℕ) → Request
request_of (program ∷ word ∷ words) =
    if bytes_eq word (codes "replay") then replay_of words
    else asked_with word (options_of (after_words nothing_read words))
request_of words = Usage
