-- How a struct holds a rule set. Assumes nothing: these are definitions.
use Rattle.std.specs.Prelude.{ℕ, ◌*◌, ltb, length, take, cond, List, Option, Some, None}
use Rattle.lists.specs.Vec.{vec}
use Rattle.rules.specs.Bounds.{rules_max}
use Rattle.sets.specs.declared.Rules.{Rules}
use Rattle.sets.specs.declared.Wide.{Wide}

-- the rules in use
abbrev pub list_of : Rules → List ℕ
list_of s = take s.count s.items

-- a set with 0 in every slot past the count
abbrev pub rules_from : List ℕ → Rules
rules_from l = record { items = vec rules_max 0 l; count = length l }

-- room for two rule sets united
abbrev pub wide_from : List ℕ → Wide
wide_from l = record { items = vec (2 * rules_max) 0 l; count = length l }

-- the set of a list, or none where it has too many
abbrev pub fitted : List ℕ → Option Rules
fitted l = cond (ltb rules_max (length l)) None (Some (rules_from l))
