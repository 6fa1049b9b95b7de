mod NumberLaws
mod GasLaws
