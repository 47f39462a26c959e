-- What was found in the words of a command line.
use Rattle.std.specs.Prelude.{ℕ, List, Option, None, Some, find, if◌then◌else◌, option_map}
use Rattle.std.specs.List.{filter_map}
use Rattle.std.specs.Str.{bytes_eq}
use Rattle.command_line.specs.declared.found.Found.{Found}

-- the name of the command
abbrev pub command_of : Found → List ℕ
command_of found = found.command.now

-- the first value of an id
abbrev pub text_of : Found → List ℕ → Option (List ℕ)
text_of found id = option_map (λ v. v.text.now) (find (λ v. bytes_eq v.id.now id) found.values.items)

-- all values of an id
abbrev pub texts_of : Found → List ℕ → List (List ℕ)
texts_of found id = filter_map (λ v. if bytes_eq v.id.now id then Some v.text.now else None) found.values.items
