mod GivenFacts
